-- A name that is neither `true` nor `fail`. Assumes nothing.
use Rattle.std.proofs.Common.{◌≡◌, ℕ, cond, List, sym, ap, ◌∙◌}
use Rattle.syntax.specs.Syntax.{name, sign}
use Rattle.syntax.specs.Marks.{true_word, fail_word}
use Rattle.syntax.specs.Grammar.{same_name, true_name, fail_name}
use Rattle.parse.specs.Raw.{name_word}
use Rattle.parse.proofs.Names.{same_no}

pub other_name : (s : List ℕ) → (s ≡ true_name → ⊥) → (s ≡ fail_name → ⊥) → (p : ℕ) → name p s ≡ name_word p s
other_name s a b p =
    sym (ap (λ t. cond t (sign true_word) (cond (same_name s fail_name) (sign fail_word) (name p s))) (same_no s true_name a)
    ∙ ap (λ t. cond t (sign fail_word) (name p s)) (same_no s fail_name b))
