-- One turn of the loop that collects words. Assumes nothing.
use Rattle.std.proofs.Common.{◌≡◌, ℕ, ◌+◌, ◌<◌, List, [], ◌∷◌, ◌++◌, map, length, Some, None, Ok, Err, sym, refl, ap, ◌∙◌}
use Rattle.std.proofs.lemmas.List.{append-nil, append_assoc}
use Rattle.words.specs.declared.marks.Mark.TheVariants as mark
use Rattle.words.specs.Lex.{Read, end, word, word_at, faulted, spells, seen}
use Rattle.words.specs.Lex as lex
use Rattle.words.specs.declared.word.Word.{Word}
use Rattle.words.specs.declared.faults.LetterFault.{LetterFault}
use Rattle.syntax.specs.Syntax.{W}
use Rattle.parse.specs.declared.token.Token.{Token}
use Rattle.parse.specs.Tokens.{words}
use Rattle.parse.specs.Raw.{raw_word}
use Rattle.parse.specs.Raw.{placed}
use Rattle.lexed.specs.Texts.{Cut, Ending, before, met, words_at, text_words, places}
use Rattle.lexed.proofs.Advance.{ends_behind, word_by_word}

-- words that were read, and what is left
abbrev pub behind : List (ℕ × W) → Cut → Cut
behind ws c = (ws ++ c.0, c.1)

nothing_behind : (ws : List (ℕ × W)) (e : Ending) → ◌≡◌ {A = Cut} (ws, e) (behind ws ([], e))
nothing_behind ws e = ap (λ l. (l, e)) (sym (append-nil ws))

-- the words so far and those from a place on are the text's
abbrev pub Reading : List ℕ → ℕ → List (ℕ × W) → Type 0
Reading text at ws = behind ws (words_at text at) ≡ text_words text

pub starts : (text : List ℕ) (at : ℕ) (ws : List (ℕ × W)) → at ≡ 0 → ws ≡ [] → Reading text at ws
unfolding text_words
starts text at ws a b = ap (λ l. behind l (words_at text at)) b ∙ ap (words_at text) a

-- a word that is met is the raw word, an arrow too
met_raw : (text : List ℕ) (rest : ℕ → Cut) (l : lex.Lexeme) (s e : ℕ) → met text rest (word l s e) ≡ before (s, raw_word s l) (rest e)
met_raw text rest (lex.sign mark.Simplify) s e = refl
met_raw text rest l s e = refl

module _ (text : List ℕ) (at : ℕ) (ws : List (ℕ × W)) (so : Reading text at ws) (held : List ℕ) (same : held ≡ text) where
  opened : (r : Read) → r ≡ word_at held at → behind ws (met text (words_at text) r) ≡ text_words text
  opened r e =
      ap (λ x. behind ws (met text (words_at text) x)) (e ∙ ap (λ x. word_at x at) same) ∙ sym (ap (behind ws) (word_by_word text at)) ∙ so

  pub at_end : (p : ℕ) → seen (Ok None) p ≡ word_at held at → (ws, Ok (length text)) ≡ text_words text
  at_end p e = nothing_behind ws (Ok (length text)) ∙ opened (end p) e

  pub at_fault : (f g : LetterFault) (p : ℕ) → ((t : List ℕ) (rest : ℕ → Cut) (s : ℕ) → ([], Err g) ≡ met t rest (faulted f s)) → faulted f p ≡ word_at held at → (ws, Err g) ≡ text_words text
  at_fault f g p told e = nothing_behind ws (Err g) ∙ ap (behind ws) (told text (words_at text) p) ∙ opened (faulted f p) e

  pub at_word : (w : Word) (p : ℕ) (x : ℕ × W) → x ≡ (w.place, raw_word w.place (spells w.what)) → seen (Ok (Some w)) p ≡ word_at held at → Reading text p (ws ++ x ∷ [])
  at_word w p x told e =
      let left = words_at text p in
      ap (λ l. (l, left.1)) (append_assoc ws (x ∷ []) left.0)
      ∙ ap (λ y. behind ws (y ∷ left.0, left.1)) told
      ∙ ap (behind ws) (sym (met_raw text (words_at text) (spells w.what) w.place p))
      ∙ opened (word (spells w.what) w.place p) e

  pub moved : (w : Word) (p : ℕ) → seen (Ok (Some w)) p ≡ word_at held at → at < p
  moved w p e = ends_behind held at (spells w.what) w.place p e

-- words and places apart
pub placed_words : (ts : List Token) → map (λ w. w.1) (map placed ts) ≡ words ts
placed_words [] = refl
placed_words (t ∷ ts) = ap (λ l. (placed t).1 ∷ l) (placed_words ts)

pub placed_places : (ts : List Token) → map (λ w. w.0) (map placed ts) ≡ places ts
placed_places [] = refl
placed_places (t ∷ ts) = ap (λ l. t.place ∷ l) (placed_places ts)
