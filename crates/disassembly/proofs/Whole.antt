-- What a listing says is what should be printed.
use Rattle.std.proofs.Common.{◌≡◌, ℕ, List, replicate, Some, None, Ok, Err, Option, sym, ap, ◌∙◌}
use Rattle.image.specs.Format.{block_count}
use Rattle.image.specs.Load.{ends_of, words_after, bytes_after}
use Rattle.image.specs.Rules.{first_refusal}
use Rattle.image.specs.declared.Refusal.{Refusal}
use Rattle.disassembly.specs.Printed.{cleared_program, cleared_data, loaded_program, loaded_data, listed_text, refused_text, printed, printed_by}
use Rattle.disassembly.specs.Rows.{Listed}
use Rattle.disassembly.specs.Text.{text_of_listing}
use Rattle.disassembly.specs.declared.rows.Listing.{Listing}
use Rattle.disassembly.specs.declared.rows.ListError.TheVariants.{Refused}

-- memories of zeros

pub cleared_words : (l : List ℕ) → l ≡ replicate 1024 0 → l ≡ cleared_program
unfolding cleared_program
cleared_words l e = e

pub cleared_bytes : (l : List ℕ) → l ≡ replicate 4096 0 → l ≡ cleared_data
unfolding cleared_data
cleared_bytes l e = e

module _ (image ws d ws' d' : List ℕ) (words : ws ≡ cleared_program) (bytes : d ≡ cleared_data) where
  same_ends : ends_of ws d ≡ ends_of cleared_program cleared_data
  same_ends = ap (λ (l : List ℕ). ends_of l d) words ∙ ap (ends_of cleared_program) bytes

  told : (o : Option Refusal) → first_refusal image (ends_of ws d) ≡ o → printed image ≡ printed_by o image
  told o e = ap (λ (r : Option Refusal). printed_by r image) (ap (first_refusal image) (sym same_ends) ∙ e)

  pub printed_listing : (listing : Listing) → Listed image ws d (Ok listing) ws' d' → text_of_listing listing ≡ printed image
  unfolding listed_text
  printed_listing listing l =
      let t = told None l.0.0 in
      let p : ws' ≡ loaded_program image = l.0.1 ∙ ap (words_after image (block_count image)) words in
      let q : d' ≡ loaded_data image = l.0.2 ∙ ap (bytes_after image (block_count image)) bytes in
      let b = l.1.blocks_are in
      let w = l.1.words_are in
      let n = l.1.bytes_are in
      cc

  pub printed_refusal : (refusal : Refusal) → Listed image ws d (Err (Refused refusal)) ws' d' → refused_text refusal ≡ printed image
  printed_refusal refusal l = sym (told (Some refusal) l.0)
