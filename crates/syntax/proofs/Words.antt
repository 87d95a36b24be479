-- Single words of the grammar as parts. Assumes nothing.
use Rattle.std.proofs.Common.{◌≡◌, ℕ, ◌<◌, true, false, eqb, ◌⊎◌, List, [], ◌∷◌, refl, subst, inl, inr, arith}
use Rattle.std.proofs.lemmas.Bool.{eqb-true, or_cases, or_left, false≢true}
use Rattle.syntax.specs.Syntax.{W, name, var, num, weight, sign, kind, mem, Note, one}
use Rattle.syntax.specs.Marks.{less, at_most, equal, at_least, greater, different, true_word, fail_word}
use Rattle.syntax.specs.Tree.{Relation, is_less, is_at_most, is_equal, is_at_least, is_greater, is_different, Telling, tells_less, tells_at_most, tells_equal, tells_at_least, tells_greater, Label, named, named_true, named_fail}
use Rattle.syntax.specs.Grammar.{Scope, relation_code, telling_code, label_word, label_note, cell_note, word_note, weight_note}
use Rattle.syntax.specs.Readers.{name_kind, variable_kind, number_kind, weight_kind, first_rule, name_value, var_value, num_value, weight_value, label_value, relation_value, telling_value, fine_note, read_name, read_digits, read_cell_number, read_weight, read_variable, read_label, read_relation, read_telling}
use Rattle.syntax.proofs.Laws.{say_one}
use Rattle.syntax.proofs.Several.{mark_forth}
use Rattle.syntax.proofs.Bundles.{Part, one_part}

-- a kind below 4 is no mark's
no_sign : (k m : ℕ) → k < 4 → mem (k ∷ []) (kind (sign m)) ≡ true → ⊥
no_sign k m s h = go (or_cases (eqb k (kind (sign m))) false h)
  where
    go : (eqb k (kind (sign m)) ≡ true) ⊎ (false ≡ true) → ⊥
    go (inl e) = let h = eqb-true k (kind (sign m)) e in omega arith
    go (inr e) = false≢true e

-- a fact of each mark of a list holds of each word of their kinds
abbrev sign_kinds : List ℕ → List ℕ
sign_kinds [] = []
sign_kinds (c ∷ cs) = kind (sign c) ∷ sign_kinds cs

abbrev Each : (W → Type 0) → List ℕ → Type 0
Each P [] = Unit {0}
Each P (c ∷ cs) = P (sign c) × Each P cs

each_word : (P : W → Type 0) (cs : List ℕ) → Each P cs → (w : W) → mem (sign_kinds cs) (kind w) ≡ true → P w
each_word P [] h w m = absurd (false≢true m)
each_word P (c ∷ cs) (h, hs) w m = go (or_cases (eqb (kind (sign c)) (kind w)) (mem (sign_kinds cs) (kind w)) m) (each_word P cs hs w)
  where
    go : (eqb (kind (sign c)) (kind w) ≡ true) ⊎ (mem (sign_kinds cs) (kind w) ≡ true) → (mem (sign_kinds cs) (kind w) ≡ true → P w) → P w
    go (inl e) rec = subst P (mark_forth c w (or_left (eqb (kind (sign c)) (kind w)) false e)) h
    go (inr e) rec = rec e

abbrev pub spell_name : ℕ × List ℕ → W
spell_name x = name x.0 x.1

name_forth : (w : W) → mem (name_kind ∷ []) (kind w) ≡ true → spell_name (name_value w) ≡ w
name_forth (name p s) m = refl
name_forth (var v) m = absurd (false≢true m)
name_forth (num n) m = absurd (false≢true m)
name_forth (weight n) m = absurd (false≢true m)
name_forth (sign c) m = absurd (no_sign 0 c (omega arith) m)

var_forth : (w : W) → mem (variable_kind ∷ []) (kind w) ≡ true → var (var_value w) ≡ w
var_forth (name p s) m = absurd (false≢true m)
var_forth (var v) m = refl
var_forth (num n) m = absurd (false≢true m)
var_forth (weight n) m = absurd (false≢true m)
var_forth (sign c) m = absurd (no_sign 1 c (omega arith) m)

num_forth : (w : W) → mem (number_kind ∷ []) (kind w) ≡ true → num (num_value w) ≡ w
num_forth (name p s) m = absurd (false≢true m)
num_forth (var v) m = absurd (false≢true m)
num_forth (num n) m = refl
num_forth (weight n) m = absurd (false≢true m)
num_forth (sign c) m = absurd (no_sign 2 c (omega arith) m)

weight_forth : (w : W) → mem (weight_kind ∷ []) (kind w) ≡ true → weight (weight_value w) ≡ w
weight_forth (name p s) m = absurd (false≢true m)
weight_forth (var v) m = absurd (false≢true m)
weight_forth (num n) m = absurd (false≢true m)
weight_forth (weight n) m = refl
weight_forth (sign c) m = absurd (no_sign 3 c (omega arith) m)

pub name_part : Part read_name (say_one spell_name fine_note) (name_kind ∷ []) []
name_part = one_part (name_kind ∷ []) name_value fine_note spell_name (0, []) (λ x. refl) (λ x. refl) name_forth

num_part : (note : W → Note) → Part (one (number_kind ∷ []) num_value note) (say_one num note) (number_kind ∷ []) []
num_part note = one_part (number_kind ∷ []) num_value note num 0 (λ x. refl) (λ x. refl) num_forth

pub digits_part : Part read_digits (say_one num fine_note) (number_kind ∷ []) []
digits_part = num_part fine_note

pub cell_number_part : Part read_cell_number (say_one num cell_note) (number_kind ∷ []) []
cell_number_part = num_part cell_note

pub weight_part : Part read_weight (say_one weight weight_note) (weight_kind ∷ []) []
weight_part = one_part (weight_kind ∷ []) weight_value weight_note weight 0 (λ x. refl) (λ x. refl) weight_forth

pub variable_part : (σ : Scope) → Part (read_variable σ) (say_one var (word_note σ)) (variable_kind ∷ []) []
variable_part σ = one_part (variable_kind ∷ []) var_value (word_note σ) var [] (λ x. refl) (λ x. refl) var_forth

-- labels
label_back : (l : Label) → label_value (label_word l) ≡ l
label_back (named p s) = refl
label_back named_true = refl
label_back named_fail = refl

label_kinds : (l : Label) → mem first_rule (kind (label_word l)) ≡ true
label_kinds (named p s) = refl
label_kinds named_true = refl
label_kinds named_fail = refl

label_forth : (w : W) → mem first_rule (kind w) ≡ true → label_word (label_value w) ≡ w
label_forth (name p s) m = refl
label_forth (var v) m = absurd (false≢true m)
label_forth (num n) m = absurd (false≢true m)
label_forth (weight n) m = absurd (false≢true m)
label_forth (sign c) m = go (or_cases (eqb name_kind (kind (sign c))) (mem (sign_kinds (true_word ∷ fail_word ∷ [])) (kind (sign c))) m)
  where
    go : (eqb name_kind (kind (sign c)) ≡ true) ⊎ (mem (sign_kinds (true_word ∷ fail_word ∷ [])) (kind (sign c)) ≡ true) → label_word (label_value (sign c)) ≡ sign c
    go (inl e) = absurd (no_sign name_kind c (omega arith) (or_left (eqb name_kind (kind (sign c))) false e))
    go (inr e) = each_word (λ w. label_word (label_value w) ≡ w) (true_word ∷ fail_word ∷ []) (refl, (refl, tt)) (sign c) e

pub label_part : (ns : List (List ℕ)) → Part (read_label ns) (say_one label_word (label_note ns)) first_rule []
label_part ns = one_part first_rule label_value (label_note ns) label_word named_true label_back label_kinds label_forth

-- relations
abbrev asked : List ℕ
asked = less ∷ at_most ∷ equal ∷ at_least ∷ greater ∷ different ∷ []

abbrev said : List ℕ
said = less ∷ at_most ∷ equal ∷ at_least ∷ greater ∷ []

abbrev pub relation_word : Relation → W
relation_word c = sign (relation_code c)

abbrev pub telling_word : Telling → W
telling_word c = sign (telling_code c)

abbrev pub asked_kinds : List ℕ
asked_kinds = sign_kinds asked

abbrev pub told_kinds : List ℕ
told_kinds = sign_kinds said

relation_back : (c : Relation) → relation_value (relation_word c) ≡ c
relation_back is_less = refl
relation_back is_at_most = refl
relation_back is_equal = refl
relation_back is_at_least = refl
relation_back is_greater = refl
relation_back is_different = refl

relation_kinds : (c : Relation) → mem asked_kinds (kind (relation_word c)) ≡ true
relation_kinds is_less = refl
relation_kinds is_at_most = refl
relation_kinds is_equal = refl
relation_kinds is_at_least = refl
relation_kinds is_greater = refl
relation_kinds is_different = refl

telling_back : (c : Telling) → telling_value (telling_word c) ≡ c
telling_back tells_less = refl
telling_back tells_at_most = refl
telling_back tells_equal = refl
telling_back tells_at_least = refl
telling_back tells_greater = refl

telling_kinds : (c : Telling) → mem told_kinds (kind (telling_word c)) ≡ true
telling_kinds tells_less = refl
telling_kinds tells_at_most = refl
telling_kinds tells_equal = refl
telling_kinds tells_at_least = refl
telling_kinds tells_greater = refl

pub relation_part : Part read_relation (say_one relation_word fine_note) asked_kinds []
relation_part = one_part asked_kinds relation_value fine_note relation_word is_less relation_back relation_kinds (each_word (λ w. relation_word (relation_value w) ≡ w) asked (refl, (refl, (refl, (refl, (refl, (refl, tt)))))))

pub telling_part : Part read_telling (say_one telling_word fine_note) told_kinds []
telling_part = one_part told_kinds telling_value fine_note telling_word tells_less telling_back telling_kinds (each_word (λ w. telling_word (telling_value w) ≡ w) said (refl, (refl, (refl, (refl, (refl, tt))))))
