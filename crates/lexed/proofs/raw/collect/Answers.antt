use Rattle.std.proofs.Common.{map, length, vec_items, Ok, sym, ap, ◌∙◌, subst, arith}
use Rattle.std.proofs.lemmas.List.{map_push}
use Rattle.words.specs.Lex.{seen}
use Rattle.parse.specs.Raw.{placed}
use Rattle.lexed.proofs.Turns.{Reading, starts, at_end, at_fault, at_word, moved}
use Rattle.lexed.proofs.raw.collect.Goals as goal
use Rattle.lexed.proofs.raw.collect.Goals.{in-Err, in-Ok+in_default}

pub loop-next-init : goal.loop-next-init
loop-next-init c =
    (c.new-words.ensures.whole, starts c.args.text.now c.new-words.result.at _ c.new-words.ensures.start (ap (map placed) c.new-list.ensures.items))

pub loop-next-smaller : goal.loop-next-smaller
loop-next-smaller c =
    let read = sym (ap (λ o. seen (Ok o) c.next_word.new.self.at) c.in-Some.is) ∙ c.in-Ok.ensures.read in
    let same = ap (λ x. length x.now) c.next_word.ensures.same in
    let far = moved c.args.text.now c.loop-next.words.at _ c.loop-next.invariant.1 _ c.loop-next.invariant.0 c.in-Some.word c.next_word.new.self.at read in
    omega (arith, same, far, c.next_word.new.self.inside)

pub loop-next-preserved : goal.loop-next-preserved
loop-next-preserved c =
    let read = sym (ap (λ o. seen (Ok o) c.next_word.new.self.at) c.in-Some.is) ∙ c.in-Ok.ensures.read in
    let grown = ap (map placed) c.in_ok-push.ensures.items ∙ map_push placed (vec_items c.loop-next.list) c.from.result in (
      ap (λ x. x.now) c.next_word.ensures.same ∙ c.loop-next.invariant.0,
      subst (λ l. Reading c.args.text.now c.next_word.new.self.at l) (sym grown)
          (at_word c.args.text.now c.loop-next.words.at _ c.loop-next.invariant.1 _ c.loop-next.invariant.0
          c.in-Some.word c.next_word.new.self.at (placed c.from.result) c.from.ensures read),
    )

pub returns : goal.returns
returns c =
    elim c.match-next_word.branch [
      | in-Err w ↦ ap (λ e. (map placed c.loop-next.list.items, e)) w.ending-is
          ∙ at_fault c.args.text.now c.loop-next.words.at _ c.loop-next.invariant.1 _ c.loop-next.invariant.0
          w.in-Err.fault w.word_fault.result c.next_word.new.self.at w.word_fault.ensures w.in-Err.ensures.read
      | in-Ok+in_default w ↦ ap (λ e. (map placed c.loop-next.list.items, e)) w.ending-is
          ∙ at_end c.args.text.now c.loop-next.words.at _ c.loop-next.invariant.1 _ c.loop-next.invariant.0
          c.next_word.new.self.at (sym (ap (λ o. seen (Ok o) c.next_word.new.self.at) w.in_default.is) ∙ w.in-Ok.ensures.read)
    ]
