-- What an answer means, in the words of the rules and of the blocks alone.
use Rattle.std.specs.Prelude.{◌≡◌, ℕ, ◌+◌, ◌-◌, ◌*◌, ◌/◌, ◌<◌, ◌≤◌, true, false, List, length, Ok, Err, Result, ◌≢◌, slice_index}
use Rattle.image.specs.declared.Ends.{Ends}
use Rattle.image.specs.declared.Fault.{Fault}
use Rattle.image.specs.declared.Fault.TheVariants.{Size}
use Rattle.image.specs.declared.Refusal.{Refusal}
use Rattle.image.specs.Format.{block_count, block_at, word_at, kind_byte, count_of, address_of, payload_of}
use Rattle.image.specs.Rules.{fault_number, wrong_size, breaks}
use Rattle.image.specs.Load.{ends_of}

-- An accepted image has a right size, and none of its blocks breaks a rule.
pub record Accepted (image : List ℕ) (ends : Ends) : Type 0 where
  pub sized : wrong_size image ≡ false
  pub unbroken : (i : ℕ) → i < block_count image → (rule : Fault) → breaks image ends i rule ≡ false

-- A refusal names the first block that breaks a rule, and the first rule that this block breaks. The first rule of all is Size,
-- which names block 0; any other refusal says that the size is right.
pub record Refused (image : List ℕ) (ends : Ends) (fault : Fault) (place : ℕ) : Type 0 where
  pub broken : breaks image ends place fault ≡ true
  pub first_rule : (rule : Fault) → fault_number rule < fault_number fault → breaks image ends place rule ≡ false
  pub first_block : (i : ℕ) → i < place → (rule : Fault) → breaks image ends i rule ≡ false
  pub size_at_0 : fault ≡ Size → place ≡ 0
  pub sized : (fault ≢ Size) → wrong_size image ≡ false
  pub within : (fault ≢ Size) → place < block_count image

-- The answer of a check.
abbrev pub Judged : List ℕ → Ends → Result (Unit {0}) Refusal → Type 0
Judged image ends (Ok _) = Accepted image ends
Judged image ends (Err r) = Refused image ends r.fault r.block

-- A program block covers the words that its payload is for, and a data block the bytes.
pub record CoversWord (block : List ℕ) (k : ℕ) : Type 0 where
  pub for_program : kind_byte block ≡ 1
  pub from : address_of block / 4 ≤ k
  pub before : k < address_of block / 4 + count_of block / 4

pub record CoversByte (block : List ℕ) (k : ℕ) : Type 0 where
  pub for_data : kind_byte block ≡ 2
  pub from : address_of block ≤ k
  pub before : k < address_of block + count_of block

-- Block i is the last that covers k, or no block covers it.
pub record LastOver (image : List ℕ) (Covers : List ℕ → ℕ → Type 0) (k i : ℕ) : Type 0 where
  pub inside : i < block_count image
  pub covers : Covers (block_at image i) k
  pub no_later : (j : ℕ) → i < j → j < block_count image → Covers (block_at image j) k → ⊥

abbrev pub Uncovered : List ℕ → (List ℕ → ℕ → Type 0) → ℕ → Type 0
Uncovered image Covers k = (i : ℕ) → i < block_count image → Covers (block_at image i) k → ⊥

-- Each word is that of the last block that covers it, or what it was; and so is each byte.
pub record WordsLoaded (image program program' : List ℕ) : Type 0 where
  pub same_length : length program' ≡ length program
  pub loaded : (k i : ℕ) → LastOver image CoversWord k i
      → slice_index program' k ≡ word_at (payload_of (block_at image i)) (4 * (k - address_of (block_at image i) / 4))
  pub kept : (k : ℕ) → Uncovered image CoversWord k → slice_index program' k ≡ slice_index program k

pub record BytesLoaded (image bytes bytes' : List ℕ) : Type 0 where
  pub same_length : length bytes' ≡ length bytes
  pub loaded : (k i : ℕ) → LastOver image CoversByte k i → slice_index bytes' k ≡ slice_index (payload_of (block_at image i)) (k - address_of (block_at image i))
  pub kept : (k : ℕ) → Uncovered image CoversByte k → slice_index bytes' k ≡ slice_index bytes k

-- An accepted image is loaded whole; a refused one changes nothing.
abbrev pub LoadLaw : List ℕ → List ℕ → List ℕ → Result (Unit {0}) Refusal → List ℕ → List ℕ → Type 0
LoadLaw image program bytes (Ok _) program' bytes' =
    Accepted image (ends_of program bytes) × WordsLoaded image program program' × BytesLoaded image bytes bytes'
LoadLaw image program bytes (Err r) program' bytes' =
    Refused image (ends_of program bytes) r.fault r.block × (program' ≡ program) × (bytes' ≡ bytes)
