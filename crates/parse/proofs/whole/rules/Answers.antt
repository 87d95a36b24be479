use Rattle.std.proofs.Common.{◌<◌, ◌≤◌, [], ◌∷◌, ◌++◌, map, length, vec_items, sym, refl, ap, ◌∙◌, subst, arith}
use Rattle.std.proofs.lemmas.List.{map_push}
use Rattle.words.specs.Names.{name_bytes}
use Rattle.syntax.specs.Readers.{read_book, read_rule, first_rule}
use Rattle.parse.specs.Cursors.{whole, rest}
use Rattle.parse.specs.Rules.{label_bytes, labels, rule_view}
use Rattle.parse.specs.Tokens.{words}
use Rattle.parse.proofs.Faults.{faulted_same, faulted_here}
use Rattle.parse.proofs.Loops.{over_found, row_grown, row_longer}
use Rattle.parse.proofs.Books.{Collects, collects_none, collects_end, collects_over, collects_fault, collects_next, exit_book, label_joins}
use Rattle.parse.proofs.whole.rules.Goals as goal

pub loop-cursor-init : goal.loop-cursor-init
unfolding read_book
loop-cursor-init c = record {
  same = refl;
  collects =
      let so = collects_none _ (words c.args.ts.now) _ (read_book (words c.args.ts.now)) (ap labels (sym c.new-list.ensures.items)) (ap (map rule_view) (sym c.new-list.ensures.items)) refl in
      subst (λ n. Collects (read_book (words c.args.ts.now)) n (labels (vec_items c.new-list.result)) (words c.args.ts.now) (map rule_view (vec_items c.new-list.result))) (sym (ap length c.new-list.ensures.items)) so;
}

pub returns-then-len-ge-MOST_RULES : goal.returns-then-len-ge-MOST_RULES
returns-then-len-ge-MOST_RULES c =
    let at = c.loop-cursor.cursor in
    let w = c.loop-cursor-test.ensures in
    let n = c.loop-cursor.list.ok.0 in
    let h : 32 ≤ length (vec_items c.loop-cursor.list) = omega (arith, n, c.len.ensures, c.if-len-ge-MOST_RULES.true) in
    faulted_here at c.args.ts c.loop-cursor.invariant.same (collects_over c.loop-cursor.invariant.collects w.0 w.1 w.2 h (whole at) c.one_too_many.result (over_found (whole at) c.one_too_many.result first_rule at.at c.one_too_many.ensures))

pub returns-in_err-rule : goal.returns-in_err-rule
returns-in_err-rule c =
    let w = c.loop-cursor-test.ensures in
    let n = c.loop-cursor.list.ok.0 in
    let h : length (vec_items c.loop-cursor.list) < 32 = omega (arith, n, c.len.ensures, c.if-len-ge-MOST_RULES.false) in
    let same = ap (λ l. read_rule (labels l) (rest c.loop-cursor.cursor)) (sym c.deref.ensures.value) in
    exit_book c.from_residual.result c.from_residual.ensures.1 (faulted_here c.rule.new.cursor c.args.ts (c.rule.ensures.same ∙ c.loop-cursor.invariant.same) (collects_fault c.loop-cursor.invariant.collects w.0 w.1 w.2 h (faulted_same same c.in_err-rule.ensures.told)))

pub loop-cursor-preserved : goal.loop-cursor-preserved
loop-cursor-preserved c =
    let w = c.loop-cursor-test.ensures in
    let n = c.loop-cursor.list.ok.0 in
    let h : length (vec_items c.loop-cursor.list) < 32 = omega (arith, n, c.len.ensures, c.if-len-ge-MOST_RULES.false) in
    let k = c.in_ok-rule.ensures.told in
    let ns = labels (vec_items c.loop-cursor.list) in
    let new = c.in_ok-rule.rule in
    let same = ap (λ l. read_rule (labels l) (rest c.loop-cursor.cursor)) (sym c.deref.ensures.value) in
    let so = collects_next c.loop-cursor.invariant.collects w.0 w.1 w.2 h k.0 (rest c.rule.new.cursor) (same ∙ k.2)
    (labels (vec_items c.push.new.self)) (ap labels c.in_ok-push.ensures.items ∙ map_push label_bytes (vec_items c.loop-cursor.list) new ∙ sym (label_joins ns k.0 (name_bytes new.label) (ap (λ r. r.label) k.1)))
    (map rule_view (vec_items c.push.new.self)) (row_grown rule_view (vec_items c.loop-cursor.list) new c.in_ok-push.ensures.items ∙ ap (λ m. map rule_view (vec_items c.loop-cursor.list) ++ m ∷ []) (sym k.1)) in
    record {
      same = c.rule.ensures.same ∙ c.loop-cursor.invariant.same;
      collects = subst (λ n. Collects (read_book (words c.args.ts.now)) n (labels (vec_items c.push.new.self)) (rest c.rule.new.cursor) (map rule_view (vec_items c.push.new.self))) (sym (row_longer (vec_items c.loop-cursor.list) new _ refl c.in_ok-push.ensures.items)) so;
    }

pub returns : goal.returns
returns c = collects_end c.loop-cursor.invariant.collects c.loop-cursor-test.ensures
