use Rattle.std.proofs.Common.{◌≡◌, ℕ, List, [], map, Ok, Result, Vec, vec_items, sym, ap, ◌∙◌}
use Rattle.std.specs.declared.alloc.Global.{Global}
use Rattle.syntax.specs.Readers.{read_book}
use Rattle.parse.specs.Tokens.{words}
use Rattle.parse.specs.declared.token.Token.{Token}
use Rattle.parse.specs.declared.flaw.Flaw.{Flaw}
use Rattle.parse.specs.declared.tree.Rule.{Rule as CodeRule}
use Rattle.parse.specs.declared.tree.Mention.{Mention as CodeMention}
use Rattle.parse.specs.Whole.{BookTold}
use Rattle.parse.specs.Model.{mention}
use Rattle.lexed.specs.declared.text.Tokens.{Tokens}
use Rattle.parse.specs.Rules.{rule_view}
use Rattle.lexed.specs.Texts.{places}
use Rattle.book.specs.Endings.{WordsTold, Told}
use Rattle.book.specs.Mentions.{in_rules}
use Rattle.book.specs.Predicates.{listing}
use Rattle.book.specs.Reading.{book_of, book_view, book_meaning, with_predicates}
use Rattle.book.proofs.Verdicts.{AreRules, rules_read, exit_book, refuses_as, told_refused, told_accepted, within, wordless, excess_refuses, as_many}
use Rattle.book.proofs.reading.read_book.Goals as goal

pub returns-in_err-tokens : goal.returns-in_err-tokens
unfolding book_of
returns-in_err-tokens c =
    let e = c.in_err-tokens.field-0.0 in
    exit_book book_view (book_of c.args.text.now) e c.from_residual.result c.from_residual.ensures.1 (wordless book_meaning 8192 read_book c.args.text.now e c.in_err-tokens.ensures)

pub returns-in_err-rules : goal.returns-in_err-rules
unfolding book_of
returns-in_err-rules c =
    let t = c.in_ok-tokens.tokens in
    let ts = c.deref.result.now in
    let e = c.in_err-rules.field-0.0 in
    let opened = within book_meaning 8192 read_book c.args.text.now t ts c.deref.ensures.value c.in_ok-tokens.ensures in
    exit_book book_view (book_of c.args.text.now) e c.from_residual-in_err-rules.result c.from_residual-in_err-rules.ensures.1
    (refuses_as e opened (told_refused AreRules book_meaning (places (vec_items t.list)) (words ts) (as_many (vec_items t.list) ts c.deref.ensures.value) (read_book (words ts)) t.ending c.rules.result e (rules_read (words ts) c.rules.result (read_book (words ts)) c.rules.ensures) c.in_err-rules.ensures))

-- the rules are those of the text, and what is left is to number their predicates
numbered : (text : List ℕ) (t : Tokens) (ts : List Token) (said : Result (Vec CodeRule Global) Flaw) (v : Vec CodeRule Global) (rules : List CodeRule) (facts : Vec CodeMention Global) (listed : List CodeMention) → ts ≡ vec_items t.list → WordsTold text 8192 (Ok t) → BookTold (words ts) said (read_book (words ts)) → Told (places (vec_items t.list)) t.ending said (Ok v) → rules ≡ vec_items v → map mention (vec_items facts) ≡ in_rules (map rule_view rules) → listed ≡ vec_items facts → book_of text ≡ with_predicates (map rule_view (vec_items v)) (listing [] (map mention listed))
unfolding book_of
numbered text t ts said v rules facts listed e held b told r f l =
    let ws = words ts in
    let k = told_accepted AreRules book_meaning (places (vec_items t.list)) ws (as_many (vec_items t.list) ts e) (read_book ws) t.ending said v (rules_read ws said (read_book ws) b) told in
    within book_meaning 8192 read_book text t ts e held ∙ k.2 ∙ ap (λ z. with_predicates z (listing [] (in_rules z))) k.1
    ∙ ap (λ z. with_predicates (map rule_view (vec_items v)) (listing [] z)) (ap (λ z. in_rules (map rule_view z)) (sym r) ∙ sym f ∙ ap (map mention) (sym l))

pub returns-in_err-predicates : goal.returns-in_err-predicates
returns-in_err-predicates c =
    let e = c.in_err-predicates.field-0.0 in
    let n = numbered c.args.text.now c.in_ok-tokens.tokens c.deref.result.now c.rules.result c.in_ok-rules.rules c.deref-2.result.now c.in_ok-facts.facts c.deref-3.result.now c.deref.ensures.value c.in_ok-tokens.ensures c.rules.ensures c.in_ok-rules.ensures c.deref-2.ensures.value c.in_ok-facts.ensures c.deref-3.ensures.value in
    exit_book book_view (book_of c.args.text.now) e c.from_residual-in_err-predicates.result c.from_residual-in_err-predicates.ensures.1 (refuses_as e n (excess_refuses e _ (map rule_view (vec_items c.in_ok-rules.rules)) c.in_err-predicates.ensures))

pub returns : goal.returns
returns c =
    numbered c.args.text.now c.in_ok-tokens.tokens c.deref.result.now c.rules.result c.in_ok-rules.rules c.deref-2.result.now c.in_ok-facts.facts c.deref-3.result.now c.deref.ensures.value c.in_ok-tokens.ensures c.rules.ensures c.in_ok-rules.ensures c.deref-2.ensures.value c.in_ok-facts.ensures c.deref-3.ensures.value
    ∙ ap (with_predicates (map rule_view (vec_items c.in_ok-rules.rules))) c.in_ok-predicates.ensures
