use Rattle.std.proofs.Common.{vec_items, sym, ap, ◌∙◌, arith}
use Rattle.words.specs.Names.{name_bytes}
use Rattle.std.proofs.lemmas.List.{map_push}
use Rattle.parse.specs.Flat.{spelled}
use Rattle.parse.specs.Scopes.{variables}
use Rattle.parse.proofs.Ahead.{variables_length, joins_known, joins_new}
use Rattle.parse.proofs.scope.Names.join.Goals as goal

pub returns-in-Some : goal.returns-in-Some
returns-in-Some c = let f = c.in-Some.ensures in joins_known (variables c.args.self.now) (name_bytes c.args.name) c.in-Some.known.index f.0 f.1

pub returns : goal.returns
returns c =
    let e = variables_length c.args.self.now in
    joins_new (variables c.args.self.now) _ (name_bytes c.args.name) c.len-count.result c.in_default.ensures (omega (arith, c.if-count-ge6.false)) (c.len-count.ensures ∙ sym e) (ap spelled c.in_ok-push.ensures.items ∙ map_push name_bytes (vec_items c.args.self.now.list) c.args.name)
