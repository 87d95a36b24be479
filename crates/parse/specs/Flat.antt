-- Trees of the grammar as the code holds them: variables by their number in the rule, signed numbers as whole numbers. Assumes nothing.
use Rattle.std.specs.Prelude.{◌≡◌, ℕ, suc, cond, List, [], ◌∷◌, map, ℤ, pos, neg_ℤ, Some, None, vec_items, Option, Vec}
use Rattle.words.specs.declared.name.Name.{Name}
use Rattle.words.specs.Names.{name_bytes}
use Rattle.cells.specs.declared.relations.Relation.{Relation}
use Rattle.cells.specs.declared.relations.Relation.TheVariants as relation
use Rattle.cells.specs.declared.relations.Telling.{Telling}
use Rattle.cells.specs.declared.relations.Telling.TheVariants as telling
use Rattle.syntax.specs.Parts as parts
use Rattle.syntax.specs.Tree as tree
use Rattle.syntax.specs.Grammar.{same_name}
use Rattle.parse.specs.declared.token.Sign.{Sign}
use Rattle.parse.specs.declared.token.Sign.TheVariants as is
use Rattle.parse.specs.declared.number.Number.{Number}
use Rattle.std.specs.declared.alloc.Global.{Global}
use Rattle.parse.specs.declared.few.Few.{Few}
use Rattle.parse.specs.Fews.{few_items}
use Rattle.parse.specs.declared.tree.Mention.{Mention as CodeMention}
use Rattle.parse.specs.declared.tree.Item.{Item as CodeItem}
use Rattle.parse.specs.declared.tree.Comparison.{Comparison}
use Rattle.parse.specs.Flaws.{listed}
use Rattle.parse.specs.Model.{Term, number, cell, variable, sum, Asking, asking, Tell, Mention, mention, Item, item, add, tell, fail, Alternative}

-- the names of a table, as bytes
abbrev pub spelled : List Name → List (List ℕ)
spelled ns = map name_bytes ns

-- how many names stand before the first that is v
abbrev pub index_of : List (List ℕ) → List ℕ → ℕ
index_of [] v = 0
index_of (x ∷ xs) v = cond (same_name x v) 0 (suc (index_of xs v))

abbrev pub signed : tree.Number → ℤ
signed (tree.positive n) = pos n
signed (tree.negative n) = neg_ℤ (pos n)

abbrev pub left_term : List (List ℕ) → tree.Left → Term
left_term vs (tree.number n) = number (signed n)
left_term vs (tree.cell k) = cell k
left_term vs (tree.variable v) = variable (index_of vs v)

-- what is added to a variable, if anything is
abbrev pub sum_value : tree.Sum → Option ℤ
sum_value tree.alone = None
sum_value (tree.raised n) = Some (pos n)
sum_value (tree.lowered n) = Some (neg_ℤ (pos n))

abbrev pub sum_of : ℕ → Option ℤ → Term
sum_of i None = variable i
sum_of i (Some n) = sum i n

abbrev pub right_term : List (List ℕ) → tree.Right → Term
right_term vs (tree.fixed n) = number (signed n)
right_term vs (tree.summed v s) = sum_of (index_of vs v) (sum_value s)

abbrev pub argument_term : List (List ℕ) → tree.Argument → Term
argument_term vs (tree.held k) = cell k
argument_term vs (tree.valued r) = right_term vs r

-- the relation that a mark stands for
abbrev pub sign_relation : Sign → Option Relation
sign_relation is.At = None
sign_relation is.Comma = None
sign_relation is.Dot = None
sign_relation is.Semicolon = None
sign_relation is.Bar = None
sign_relation is.Backslash = None
sign_relation is.Open = None
sign_relation is.Close = None
sign_relation is.Plus = None
sign_relation is.Minus = None
sign_relation is.Colon = None
sign_relation is.Hash = None
sign_relation is.Ask = None
sign_relation is.Less = Some relation.Less
sign_relation is.AtMost = Some relation.AtMost
sign_relation is.Equal = Some relation.Equal
sign_relation is.AtLeast = Some relation.AtLeast
sign_relation is.Greater = Some relation.Greater
sign_relation is.Different = Some relation.Different
sign_relation is.Simplify = None
sign_relation is.SimplifyGuarded = None
sign_relation is.Propagate = None
sign_relation is.PropagateGuarded = None
sign_relation is.True = None
sign_relation is.Fail = None

-- the same of what a body may tell
abbrev pub sign_telling : Sign → Option Telling
sign_telling is.At = None
sign_telling is.Comma = None
sign_telling is.Dot = None
sign_telling is.Semicolon = None
sign_telling is.Bar = None
sign_telling is.Backslash = None
sign_telling is.Open = None
sign_telling is.Close = None
sign_telling is.Plus = None
sign_telling is.Minus = None
sign_telling is.Colon = None
sign_telling is.Hash = None
sign_telling is.Ask = None
sign_telling is.Less = Some telling.Less
sign_telling is.AtMost = Some telling.AtMost
sign_telling is.Equal = Some telling.Equal
sign_telling is.AtLeast = Some telling.AtLeast
sign_telling is.Greater = Some telling.Greater
sign_telling is.Different = None
sign_telling is.Simplify = None
sign_telling is.SimplifyGuarded = None
sign_telling is.Propagate = None
sign_telling is.PropagateGuarded = None
sign_telling is.True = None
sign_telling is.Fail = None

abbrev pub tree_relation : tree.Relation → Relation
tree_relation tree.is_less = relation.Less
tree_relation tree.is_at_most = relation.AtMost
tree_relation tree.is_equal = relation.Equal
tree_relation tree.is_at_least = relation.AtLeast
tree_relation tree.is_greater = relation.Greater
tree_relation tree.is_different = relation.Different

abbrev pub tree_telling : tree.Telling → Telling
tree_telling tree.tells_less = telling.Less
tree_telling tree.tells_at_most = telling.AtMost
tree_telling tree.tells_equal = telling.Equal
tree_telling tree.tells_at_least = telling.AtLeast
tree_telling tree.tells_greater = telling.Greater

abbrev pub asking_of : List (List ℕ) → tree.Comparison tree.Relation → Asking
asking_of vs (tree.compared l c r) = record { left = left_term vs l; relation = tree_relation c; right = right_term vs r }

abbrev pub tell_of : List (List ℕ) → tree.Comparison tree.Telling → Tell
tell_of vs (tree.compared l c r) = record { left = left_term vs l; telling = tree_telling c; right = right_term vs r }

abbrev pub mention_of : {A : Type 0} → (A → Term) → tree.Fact A → Mention
mention_of value (tree.bare p n) = record { place = p; name = n; arguments = [] }
mention_of value (tree.applied p n xs) = record { place = p; name = n; arguments = map value (listed xs) }

abbrev pub item_of : List (List ℕ) → tree.Item → Item
item_of vs (tree.added f) = add (mention_of (argument_term vs) f)
item_of vs (tree.told c) = tell (tell_of vs c)
item_of vs tree.failing = fail

abbrev pub content_of : List (List ℕ) → tree.Content → List Item
content_of vs tree.nil = []
content_of vs (tree.items is) = map (item_of vs) (listed is)

abbrev pub alternative_of : List (List ℕ) → tree.Alternative → Alternative
alternative_of vs (tree.plainly c) = record { weight = 0; items = content_of vs c }
alternative_of vs (tree.weighted n c) = record { weight = n; items = content_of vs c }

abbrev pub guard_of : List (List ℕ) → tree.Guard → List Asking
guard_of vs tree.none = []
guard_of vs (tree.guarded cs) = map (asking_of vs) (listed cs)

-- what was read is the number of the tree
abbrev pub IsNumber : Number → tree.Number → Type 0
IsNumber x y = signed y ≡ x.value

abbrev pub offset_value : Option Number → Option ℤ
offset_value None = None
offset_value (Some n) = Some n.value

abbrev pub IsSum : Option Number → tree.Sum → Type 0
IsSum x y = sum_value y ≡ offset_value x

-- the items of an alternative or goal
abbrev pub IsContent : List (List ℕ) → Vec (CodeItem CodeMention) Global → tree.Content → Type 0
IsContent vs x y = content_of vs y ≡ map item (vec_items x)

-- the comparisons of a guard, none where there is no guard
abbrev pub IsGuard : List (List ℕ) → Vec (Comparison Relation) Global → tree.Guard → Type 0
IsGuard vs x y = guard_of vs y ≡ map asking (vec_items x)

-- heads, under the variables of the rule
abbrev pub head_mention : List (List ℕ) → tree.Fact tree.Left → Mention
head_mention vs f = mention_of (left_term vs) f

abbrev pub head_mentions : List (List ℕ) → parts.Some (tree.Fact tree.Left) → List Mention
head_mentions vs hs = map (head_mention vs) (listed hs)

abbrev pub few_mentions : Few CodeMention → List Mention
few_mentions xs = map mention (few_items xs)
