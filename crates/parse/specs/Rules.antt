-- Rules as the code holds them, and as the grammar's trees come to. Assumes nothing.
use Rattle.std.specs.Prelude.{◌≡◌, ℕ, ◌-◌, List, [], ◌∷◌, map, vec_items}
use Rattle.words.specs.Names.{name_bytes}
use Rattle.syntax.specs.Syntax.{kind, sign, Reader, both, fork, via}
use Rattle.syntax.specs.Parts.{Some}
use Rattle.syntax.specs.Marks.{backslash, simplify, simplify_guarded, propagate, propagate_guarded}
use Rattle.syntax.specs.Tree as tree
use Rattle.syntax.specs.Grammar.{Scope, binding, bound, seal, next_all, next_head, behind, label_name}
use Rattle.syntax.specs.Readers.{arrow_of, on_mark, read_heads, read_guard}
use Rattle.parse.specs.declared.few.Few.{Few}
use Rattle.parse.specs.declared.tree.Mention.{Mention as CodeMention}
use Rattle.parse.specs.declared.tree.Arrow.{Arrow as CodeArrow}
use Rattle.parse.specs.declared.tree.Rule.{Rule as CodeRule}
use Rattle.parse.specs.Model.{Mention, Asking, asking, Alternative, alternative}
use Rattle.parse.specs.Flat.{head_mentions, few_mentions, guard_of, alternative_of}
use Rattle.parse.specs.Flaws.{listed}
use Rattle.parse.specs.Scopes.{variables, scope_names}

-- what stands between the first heads and the body: the kept heads, the removed ones and the guard
pub record Arrow : Type 0 where
  pub kept : List Mention
  pub removed : List Mention
  pub guard : List Asking

pub record Rule : Type 0 where
  pub label : List ℕ
  pub variables : List (List ℕ)
  pub kept : List Mention
  pub removed : List Mention
  pub guard : List Asking
  pub body : List Alternative

abbrev pub arrow_view : CodeArrow → Arrow
arrow_view a = record { kept = few_mentions a.kept; removed = few_mentions a.removed; guard = map asking (vec_items a.guard) }

abbrev pub rule_view : CodeRule → Rule
rule_view r = record {
  label = name_bytes r.label;
  variables = variables r.variables;
  kept = few_mentions r.kept;
  removed = few_mentions r.removed;
  guard = map asking (vec_items r.guard);
  body = map alternative (vec_items r.body);
}

-- the names of rules
abbrev pub label_bytes : CodeRule → List ℕ
label_bytes r = name_bytes r.label

abbrev pub labels : List CodeRule → List (List ℕ)
labels rs = map label_bytes rs

-- before `==>` the first heads are kept, before `<=>` removed, and before `\` kept, with the others removed
abbrev pub arrow_model : List (List ℕ) → List Mention → tree.Arrow → Arrow
arrow_model vs first (tree.propagating g) = record { kept = first; removed = []; guard = guard_of vs g }
arrow_model vs first (tree.simplifying g) = record { kept = []; removed = first; guard = guard_of vs g }
arrow_model vs first (tree.simpagating rs g) = record { kept = first; removed = head_mentions vs rs; guard = guard_of vs g }

-- a rule, its variables numbered as they first appear in its heads
abbrev pub rule_under : List (List ℕ) → tree.Label → Arrow → Some tree.Alternative → Rule
rule_under vs l a b = record {
  label = label_name l;
  variables = vs;
  kept = a.kept;
  removed = a.removed;
  guard = a.guard;
  body = map (alternative_of vs) (listed b);
}

abbrev pub rule_model : tree.Rule → Rule
rule_model (tree.rule l hs a b) = let vs = scope_names (behind hs a) in rule_under vs l (arrow_model vs (head_mentions vs hs) a) b

-- the arrow behind k heads that have the variables of σ
abbrev pub arrow_from : ℕ → Scope → Reader tree.Arrow
arrow_from k σ =
    via arrow_of (on_mark backslash
    (both (read_heads (3 - k) σ) (λ rs. read_guard simplify simplify_guarded (seal (next_all next_head σ rs))))
    (fork (kind (sign propagate) ∷ kind (sign propagate_guarded) ∷ []) (read_guard propagate propagate_guarded (seal σ)) (read_guard simplify simplify_guarded (seal σ))))

-- the variables behind the arrow
abbrev pub behind_from : Scope → tree.Arrow → Scope
behind_from σ (tree.propagating g) = seal σ
behind_from σ (tree.simplifying g) = seal σ
behind_from σ (tree.simpagating rs g) = seal (next_all next_head σ rs)

-- the arrow read is that of the tree, behind which the variables grew from vs to us
abbrev pub IsArrow : List (List ℕ) → List (List ℕ) → Few CodeMention → CodeArrow → tree.Arrow → Type 0
IsArrow vs us first x y = (behind_from (binding vs) y ≡ bound us) × (arrow_model us (few_mentions first) y ≡ arrow_view x)
