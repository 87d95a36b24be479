use Rattle.std.proofs.Common.{◌≡◌, ℕ, List, map, Ok, Result, Vec, vec_items, sym, ap, ◌∙◌}
use Rattle.std.specs.declared.alloc.Global.{Global}
use Rattle.syntax.specs.Readers.{read_goal}
use Rattle.parse.specs.Tokens.{words}
use Rattle.parse.specs.declared.token.Token.{Token}
use Rattle.parse.specs.declared.flaw.Flaw.{Flaw}
use Rattle.parse.specs.declared.tree.Item.{Item as CodeItem}
use Rattle.parse.specs.declared.tree.Mention.{Mention as CodeMention}
use Rattle.parse.specs.Whole.{GoalTold}
use Rattle.parse.specs.Model.{mention, item}
use Rattle.lexed.specs.declared.text.Tokens.{Tokens}
use Rattle.lexed.specs.Texts.{places}
use Rattle.book.specs.Endings.{WordsTold, Told}
use Rattle.book.specs.Mentions.{in_items}
use Rattle.book.specs.Predicates.{Predicate, predicates, unknowns}
use Rattle.book.specs.Reading.{goal_of, goal_view, goal_meaning, with_known}
use Rattle.book.proofs.Verdicts.{AreItems, items_read, exit_book, refuses_as, told_refused, told_accepted, within, wordless, as_many}
use Rattle.book.proofs.reading.read_goal.Goals as goal

pub returns-in_err-tokens : goal.returns-in_err-tokens
unfolding goal_of
returns-in_err-tokens c =
    let e = c.in_err-tokens.field-0.0 in
    let ps = predicates c.args.book.now.predicates in
    exit_book goal_view (goal_of ps c.args.text.now) e c.from_residual.result c.from_residual.ensures.1 (wordless (goal_meaning ps) 1024 read_goal c.args.text.now e c.in_err-tokens.ensures)

pub returns-in_err-items : goal.returns-in_err-items
unfolding goal_of
returns-in_err-items c =
    let t = c.in_ok-tokens.tokens in
    let ts = c.deref.result.now in
    let e = c.in_err-items.field-0.0 in
    let ps = predicates c.args.book.now.predicates in
    let opened = within (goal_meaning ps) 1024 read_goal c.args.text.now t ts c.deref.ensures.value c.in_ok-tokens.ensures in
    exit_book goal_view (goal_of ps c.args.text.now) e c.from_residual-in_err-items.result c.from_residual-in_err-items.ensures.1
    (refuses_as e opened (told_refused AreItems (goal_meaning ps) (places (vec_items t.list)) (words ts) (as_many (vec_items t.list) ts c.deref.ensures.value) (read_goal (words ts)) t.ending c.goal.result e (items_read (words ts) c.goal.result (read_goal (words ts)) c.goal.ensures) c.in_err-items.ensures))

-- the items are those of the text, and what is left is to look for a predicate that the book lacks
itemized : (ps : List Predicate) (text : List ℕ) (t : Tokens) (ts : List Token) (said : Result (Vec (CodeItem CodeMention) Global) Flaw) (v : Vec (CodeItem CodeMention) Global) (items : List (CodeItem CodeMention)) (facts : Vec CodeMention Global) (listed : List CodeMention) → ts ≡ vec_items t.list → WordsTold text 1024 (Ok t) → GoalTold (words ts) said (read_goal (words ts)) → Told (places (vec_items t.list)) t.ending said (Ok v) → items ≡ vec_items v → map mention (vec_items facts) ≡ in_items (map item items) → listed ≡ vec_items facts → goal_of ps text ≡ with_known (map item (vec_items v)) (unknowns ps (map mention listed))
unfolding goal_of
itemized ps text t ts said v items facts listed e held b told r f l =
    let ws = words ts in
    let k = told_accepted AreItems (goal_meaning ps) (places (vec_items t.list)) ws (as_many (vec_items t.list) ts e) (read_goal ws) t.ending said v (items_read ws said (read_goal ws) b) told in
    within (goal_meaning ps) 1024 read_goal text t ts e held ∙ k.2 ∙ ap (λ z. with_known z (unknowns ps (in_items z))) k.1
    ∙ ap (λ z. with_known (map item (vec_items v)) (unknowns ps z)) (ap (λ z. in_items (map item z)) (sym r) ∙ sym f ∙ ap (map mention) (sym l))

pub returns-in-Some : goal.returns-in-Some
returns-in-Some c =
    itemized (predicates c.args.book.now.predicates) c.args.text.now c.in_ok-tokens.tokens c.deref.result.now c.goal.result c.in_ok-items.items c.deref-2.result.now c.in_ok-facts.facts c.deref-3.result.now c.deref.ensures.value c.in_ok-tokens.ensures c.goal.ensures c.in_ok-items.ensures c.deref-2.ensures.value c.in_ok-facts.ensures c.deref-3.ensures.value
    ∙ ap (with_known (map item (vec_items c.in_ok-items.items))) c.in-Some.ensures

pub returns : goal.returns
returns c =
    itemized (predicates c.args.book.now.predicates) c.args.text.now c.in_ok-tokens.tokens c.deref.result.now c.goal.result c.in_ok-items.items c.deref-2.result.now c.in_ok-facts.facts c.deref-3.result.now c.deref.ensures.value c.in_ok-tokens.ensures c.goal.ensures c.in_ok-items.ensures c.deref-2.ensures.value c.in_ok-facts.ensures c.deref-3.ensures.value
    ∙ ap (with_known (map item (vec_items c.in_ok-items.items))) c.in_default.ensures
