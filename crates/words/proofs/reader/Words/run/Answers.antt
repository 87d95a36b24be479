use Rattle.std.proofs.Common.{ℕ, ◌-◌, List, length, take, drop, rules, tests, ◌∙◌}
use Rattle.std.proofs.lemmas.Iterator.{YieldsList-from_slice}
use Rattle.std.proofs.lemmas.Iterator.Consumers.{count_from_yields_List}
use Rattle.std.proofs.lemmas.Iterator.Search.{YieldsList-from_take_while}
use Rattle.std.proofs.lemmas.List.{take_rest}
use Rattle.std.proofs.lemmas.List.Folds.{length-prefix_len}
use Rattle.words.proofs.reader.Words.run.Goals as goal

pub returns-clause-run : goal.returns-clause-run
returns-clause-run g c = λ test so.
    let xs : List ℕ = take (length c.args.self.now.text.now - c.args.self.now.at) (drop c.args.self.now.at c.args.self.now.text.now) in
    let e = count_from_yields_List c.take_while.result _ c.count-width.ensures.ran (YieldsList-from_take_while _ test (YieldsList-from_slice xs cc) c.take_while.ensures.closure c.take_while.ensures.done (λ x b q k. search (rules, tests, so))) ∙ length-prefix_len test xs in
    rw (e, take_rest)
