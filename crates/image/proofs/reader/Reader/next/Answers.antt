use Rattle.std.proofs.Common.{◌≡◌, ◌+◌, eqb, [], length, get_or, Ok, Err, Result, sym, refl, ap, ◌∙◌, subst, arith, rules}
use Rattle.std.proofs.lemmas.Result.{err_from_is_err_and}
use Rattle.std.specs.Result.{MatchResult}
use Rattle.image.specs.declared.Fault.{Fault}
use Rattle.image.specs.declared.Refusal.{Refusal}
use Rattle.image.specs.declared.block.Block.{Block}
use Rattle.image.specs.Reading.{Parsed, Refusing}
use Rattle.image.proofs.Chunks.{block_chunk}
use Rattle.image.proofs.Walk.{gave, refusing_there}
use Rattle.image.proofs.reader.Reader.next.Goals as goal

-- what `map_err` was given, by what it returned
module _ (P : Result Block Fault → Type 0) where
  kept : (p : Result Block Fault) (b : Block) → P p → MatchResult p (λ x. ◌≡◌ {A = Result Block Refusal} (Ok b) (Ok x)) (λ e. ⊥) → P (Ok b)
  kept (Ok x) b h m = let e : x ≡ b = cc in subst (λ y. P (Ok y)) e h
  kept (Err e) b h m = absurd m

  mapped : (Q : Fault → Type 0) (p : Result Block Fault) (r : Refusal) → P p → MatchResult p (λ x. ◌≡◌ {A = Result Block Refusal} (Err r) (Ok x)) Q
      → (e : Fault) × Q e × P (Err e)
  mapped Q (Ok x) r h m = absurd (cc)
  mapped Q (Err e) r h m = (e, m, h)

pub returns : goal.returns
returns c =
    let s = c.args.self.now in
    let chunks = c.as_chunks.result.0.now in
    let look = c.in-Some.ensures.lookup in
    let e = look.3.1 _ ∙ ap (λ l. get_or l s.place []) c.as_chunks.ensures.front ∙ block_chunk _ s.image.now s.place (omega arith) in
    let p = kept (Parsed c.in-Some.bytes.now s.place (eqb (s.place + 1) (length chunks)) s.ends) c.parse.result c.in_ok-block.block c.parse.ensures c.in_ok-block.ensures.cases in
    gave s _ chunks (c.as_chunks.ensures.front_len, look.3.0, e) c.in_ok-block.block _ (record { same_image = refl; same_ends = refl; at_place = refl }) p

pub returns-in_err-block : goal.returns-in_err-block
returns-in_err-block c =
    let s = c.args.self.now in
    let chunks = c.as_chunks.result.0.now in
    let look = c.in-Some.ensures.lookup in
    let e = look.3.1 _ ∙ ap (λ l. get_or l s.place []) c.as_chunks.ensures.front ∙ block_chunk _ s.image.now s.place (omega arith) in
    let p = mapped (Parsed c.in-Some.bytes.now s.place (eqb (s.place + 1) (length chunks)) s.ends) _ c.parse.result c.in_err-block.field-0.0 c.parse.ensures c.in_err-block.ensures.cases in
    let q = refusing_there s _ chunks (c.as_chunks.ensures.front_len, look.3.0, e) p.0 p.2 in
    let r = err_from_is_err_and c.from_residual.result c.from_residual.ensures.1 in
    let told : c.in_err-block.field-0.0 ≡ record { fault = p.0; block = s.place } = search rules in
    rw (r.1, r.2) (subst (Refusing s s) (sym told) q)
