-- The rules of an image: what breaks each, in which order they are looked at, and which refusal an image gets.
use Rattle.std.specs.Prelude.{ℕ, zero, suc, ◌+◌, ◌%◌, Bool, if◌then◌else◌, not, ◌&&◌, ◌||◌, List, [], ◌∷◌, ◌++◌, length, Some, None, Ok, Err, codes, decimal, Option, Result, ◌==◌, nat_lt}
use Rattle.std.specs.Option.{option_map}
use Rattle.image.specs.declared.Ends.{Ends}
use Rattle.image.specs.declared.Fault.{Fault}
use Rattle.image.specs.declared.Fault.TheVariants.{Size, Check, Number, Kind, Count, Address, Stray, End}
use Rattle.image.specs.declared.Refusal.{Refusal}
use Rattle.image.specs.Format.{block_count, block_at, number_of, kind_byte, zero_byte, count_of, address_of, rest_of, check_of, wanted_check, all_zero}

-- The numbers of the refusals. The rules are looked at in this order.
abbrev pub fault_number : Fault → ℕ
fault_number Size = 3
fault_number Check = 4
fault_number Number = 5
fault_number Kind = 6
fault_number Count = 7
fault_number Address = 8
fault_number Stray = 9
fault_number End = 10

-- The rules as people call them.
abbrev pub fault_text : Fault → List ℕ
fault_text Size = codes "wrong size"
fault_text Check = codes "wrong check"
fault_text Number = codes "wrong number"
fault_text Kind = codes "wrong kind"
fault_text Count = codes "wrong count"
fault_text Address = codes "wrong address"
fault_text Stray = codes "stray byte"
fault_text End = codes "wrong end"

-- Size: the image has 0 bytes, more than 65,536, or no multiple of 512.
abbrev pub wrong_size : List ℕ → Bool
wrong_size image = length image == 0 || nat_lt 65536 (length image) || not (length image % 512 == 0)

-- Check: it is not the sum of the words before it.
abbrev pub wrong_check : List ℕ → Bool
wrong_check b = not (check_of b == wanted_check b)

-- Number: it is not the block's place.
abbrev pub wrong_number : List ℕ → ℕ → Bool
wrong_number b place = not (number_of b == place)

-- Kind: it is not 1 (program), 2 (data) or 3 (end), or the byte after it is not 0.
abbrev pub wrong_kind : ℕ → ℕ → Bool
wrong_kind kind next = not (kind == 1 || kind == 2 || kind == 3) || not (next == 0)

-- Count: it is above 496, no multiple of 4, or not 0 in an end block.
abbrev pub wrong_count : ℕ → ℕ → Bool
wrong_count kind count = nat_lt 496 count || not (count % 4 == 0) || (kind == 3 && not (count == 0))

-- Address: it is no multiple of 4, not 0 in an end block, or the payload passes the end of the memory that it is for.
abbrev pub wrong_address : ℕ → ℕ → ℕ → Ends → Bool
wrong_address kind address count ends =
    not (address % 4 == 0) || (kind == 3 && not (address == 0))
    || (kind == 1 && nat_lt ends.program (address + count))
    || (kind == 2 && nat_lt ends.«data» (address + count))

-- Stray: a payload byte beyond the count is not 0.
abbrev pub wrong_rest : List ℕ → Bool
wrong_rest b = not (all_zero (rest_of b))

-- End: an end block stands before the last block, or the last block is no end block.
abbrev pub wrong_end : ℕ → Bool → Bool
wrong_end kind last = if kind == 3 then not last else last

abbrev pub is_last : List ℕ → ℕ → Bool
is_last image place = place + 1 == block_count image

-- Whether the block at a place of an image breaks a rule.
abbrev pub breaks : List ℕ → Ends → ℕ → Fault → Bool
breaks image ends place Size = wrong_size image
breaks image ends place Check = wrong_check (block_at image place)
breaks image ends place Number = wrong_number (block_at image place) place
breaks image ends place Kind = wrong_kind (kind_byte (block_at image place)) (zero_byte (block_at image place))
breaks image ends place Count = wrong_count (kind_byte (block_at image place)) (count_of (block_at image place))
breaks image ends place Address =
    wrong_address (kind_byte (block_at image place)) (address_of (block_at image place)) (count_of (block_at image place)) ends
breaks image ends place Stray = wrong_rest (block_at image place)
breaks image ends place End = wrong_end (kind_byte (block_at image place)) (is_last image place)

-- The first rule that a block breaks.
abbrev pub first_of : List (Bool × Fault) → Option Fault
first_of [] = None
first_of (rule ∷ rules) = if rule.0 then Some rule.1 else first_of rules

unfoldable pub fault_of : List ℕ → ℕ → Bool → Ends → Option Fault
fault_of b place last ends =
    first_of
    ((wrong_check b, Check)
    ∷ (wrong_number b place, Number)
    ∷ (wrong_kind (kind_byte b) (zero_byte b), Kind)
    ∷ (wrong_count (kind_byte b) (count_of b), Count)
    ∷ (wrong_address (kind_byte b) (address_of b) (count_of b) ends, Address)
    ∷ (wrong_rest b, Stray)
    ∷ (wrong_end (kind_byte b) last, End)
    ∷ [])

abbrev pub fault_at : List ℕ → Ends → ℕ → Option Fault
fault_at image ends place = fault_of (block_at image place) place (is_last image place) ends

-- A fault at a place, as a refusal.
abbrev pub refusing : ℕ → Option Fault → Option Refusal
refusing place None = None
refusing place (Some f) = Some (record { fault = f; block = place })

abbrev pub or_else : Option Refusal → Option Refusal → Option Refusal
or_else None later = later
or_else (Some r) later = Some r

-- The first refusal among the first n blocks: an earlier one, or else that of the last of them.
unfoldable pub refusal_below : List ℕ → Ends → ℕ → Option Refusal
refusal_below image ends zero = None
refusal_below image ends (suc n) = or_else (refusal_below image ends n) (refusing n (fault_at image ends n))

-- The refusal that an image gets. A wrong size names block 0.
abbrev pub first_refusal : List ℕ → Ends → Option Refusal
first_refusal image ends = if wrong_size image then refusing 0 (Some Size) else refusal_below image ends (block_count image)

-- The refusal that an answer holds.
abbrev pub refusal_in : {T : Type 0} → Result T Refusal → Option Refusal
refusal_in (Ok _) = None
refusal_in (Err r) = Some r

-- A refusal as it is told: its number, and the block that it names.
abbrev pub told : Refusal → ℕ × ℕ
told r = (fault_number r.fault, r.block)

-- What an answer tells: nothing, or a refusal's number and block.
abbrev pub told_by : {T : Type 0} → Result T Refusal → Option (ℕ × ℕ)
told_by answer = option_map told (refusal_in answer)

-- What the image should be told.
abbrev pub told_of : List ℕ → Ends → Option (ℕ × ℕ)
told_of image ends = option_map told (first_refusal image ends)

-- The line for people: refused N block B.
abbrev pub refusal_text : Refusal → List ℕ
refusal_text r = codes "refused " ++ (decimal (told r).0 ++ (codes " block " ++ decimal (told r).1))
