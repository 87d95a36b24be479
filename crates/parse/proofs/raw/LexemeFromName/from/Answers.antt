use Rattle.std.proofs.Common.{sym, ◌∙◌}
use Rattle.std.proofs.lemmas.Bool.{false≢true}
use Rattle.words.specs.Names.{name_bytes}
use Rattle.parse.proofs.OtherNames.{other_name}
use Rattle.parse.proofs.raw.LexemeFromName.from.Goals as goal

pub returns : goal.returns
returns c =
    other_name (name_bytes c.args.name)
    (λ e. false≢true (c.if-same_name.ensures.1 (e ∙ sym c.truth.ensures)))
    (λ e. false≢true (c.if-same_name-2.ensures.1 (e ∙ sym c.failure.ensures)))
