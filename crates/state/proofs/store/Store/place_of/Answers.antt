use Rattle.std.proofs.Common.{rules}
use Rattle.std.proofs.lemmas.List.Sorted.{answers_always}
use Rattle.state.proofs.Places.{searched}
use Rattle.state.proofs.store.Store.place_of.Goals as goal

-- the closure gives a fact's identifier, and the slice has the store's facts
pub returns : goal.returns
returns c =
    let facts = c.binary_search_by_key.ensures in
    let by_key = facts.position (λ f. f.identifier) (answers_always _ _ _ (λ f a r g called. search rules)) in
    let s = c.args.self.now in
    rw (← c.as_slice.ensures) (searched c.args.identifier s.next c.as_slice.result.now c.binary_search_by_key.result (rw c.as_slice.ensures s.rising) facts.bound by_key)
