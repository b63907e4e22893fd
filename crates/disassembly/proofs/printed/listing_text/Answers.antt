use Rattle.std.proofs.Common.{◌∙◌}
use Rattle.std.proofs.lemmas.Result.{IfOk-weaker}
use Rattle.disassembly.proofs.Whole.{cleared_words, cleared_bytes, printed_listing, printed_refusal}
use Rattle.disassembly.proofs.printed.listing_text.Goals as goal

pub returns-in-Ok : goal.returns-in-Ok
returns-in-Ok c =
    let words = cleared_words c.deref_mut.result.now (c.deref_mut.ensures.value ∙ c.in_ok-program.ensures.items_if_clones_equal (λ y e. e)) in
    let bytes = cleared_bytes c.deref_mut-2.result.now (c.deref_mut-2.ensures.value ∙ c.in_ok-data.ensures.items_if_clones_equal (λ y e. e)) in
    let all = printed_listing c.args.image.now _ _ c.list.new.program c.list.new.data words bytes c.in-Ok.listing c.in-Ok.ensures.answer in
    IfOk-weaker c.text.result _ _ (λ text e. e ∙ all) c.text.ensures

pub returns-in-Err-Refused : goal.returns-in-Err-Refused
returns-in-Err-Refused c =
    let words = cleared_words c.deref_mut.result.now (c.deref_mut.ensures.value ∙ c.in_ok-program.ensures.items_if_clones_equal (λ y e. e)) in
    let bytes = cleared_bytes c.deref_mut-2.result.now (c.deref_mut-2.ensures.value ∙ c.in_ok-data.ensures.items_if_clones_equal (λ y e. e)) in
    let told = rw c.in-Err-Refused.field-0-is at c.in-Err-Refused.ensures.answer in
    let all = printed_refusal c.args.image.now _ _ c.list.new.program c.list.new.data words bytes c.in-Err-Refused.refusal told in
    IfOk-weaker c.format.result _ _ (λ text e. e ∙ all) c.format.ensures.ok
