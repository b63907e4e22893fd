-- One line more: what is written and what is left to write are together the whole.
use Rattle.std.proofs.Common.{◌≡◌, ℕ, ◌+◌, ◌<◌, ◌≤◌, List, [], ◌∷◌, ◌++◌, length, get_or, drop, sym, ap, ◌∙◌, append_assoc, append-nil}
use Rattle.std.proofs.lemmas.List.{at_drop_more, at_drop_all}
use Rattle.disassembly.specs.Text.{lines_of}

module _ {X : Type 0} (line : X → List ℕ) (rows : List X) (i : ℕ) (whole before : List ℕ) (inv : before ++ lines_of line (drop i rows) ≡ whole) where
  pub line_more : (d : X) (after : List ℕ) → i < length rows → after ≡ before ++ (line (get_or rows i d) ++ (10 ∷ [])) → after ++ lines_of line (drop (i + 1) rows) ≡ whole
  line_more d after h e =
      ap (λ (l : List ℕ). l ++ lines_of line (drop (i + 1) rows)) e
      ∙ append_assoc before (line (get_or rows i d) ++ (10 ∷ [])) (lines_of line (drop (i + 1) rows))
      ∙ ap (λ (l : List ℕ). before ++ l) (sym (at_drop_more (lines_of line) rows i d h))
      ∙ inv

  pub line_all : length rows ≤ i → before ≡ whole
  line_all h = sym (append-nil before) ∙ ap (λ (l : List ℕ). before ++ l) (sym (at_drop_all (lines_of line) rows i h)) ∙ inv
