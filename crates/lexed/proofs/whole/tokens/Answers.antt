use Rattle.std.proofs.Common.{◌≡◌, map, length, vec_items, vec_len, sym, ap, ◌∙◌, arith}
use Rattle.std.proofs.lemmas.List.{with_items_is}
use Rattle.syntax.specs.Marking.{marked}
use Rattle.parse.specs.Tokens.{words}
use Rattle.lexed.specs.Texts.{places}
use Rattle.lexed.proofs.Turns.{placed_words, placed_places}
use Rattle.lexed.proofs.whole.tokens.Goals as goal

pub returns : goal.returns
returns c =
    let v = c.in_ok-list.field-0.list in
    let n : length c.mark.new.list ≡ vec_len v = omega (arith, c.mark.auto.list, c.deref_mut.ensures.len) in
    let e = with_items_is v c.mark.new.list n in
    let s = c.deref_mut.ensures.value in
    let k = c.in_ok-list.ensures in
    record {
      words = ap words e ∙ c.mark.ensures.words ∙ ap (λ l. marked (words l)) s ∙ ap marked (sym (placed_words (vec_items v)) ∙ ap (λ x. map (λ w. w.1) x.0) k);
      places = ap places e ∙ c.mark.ensures.places ∙ ap places s ∙ sym (placed_places (vec_items v)) ∙ ap (λ x. map (λ w. w.0) x.0) k;
      ending = ap (λ x. x.1) k;
    }
