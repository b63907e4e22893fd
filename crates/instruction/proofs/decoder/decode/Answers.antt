use Rattle.std.proofs.Common.{◌≡◌, sym, subst, ◌∙◌}
use Rattle.instruction.specs.Fields.{in_field, opcode_field}
use Rattle.instruction.specs.Laws.{DecodesTo}
use Rattle.instruction.proofs.Deciding.{decides}
use Rattle.instruction.proofs.Reading.{by_opcode_lem}
use Rattle.instruction.proofs.decoder.decode.Goals as goal

pub returns-in-0-clause-law : goal.returns-in-0-clause-law
returns-in-0-clause-law c =
    let w = c.args.word in
    let zero : in_field opcode_field w ≡ 0 = sym c.bits.ensures ∙ c.in-0.is in
    subst (DecodesTo w) (by_opcode_lem w 0 zero ∙ sym c.decode_function.ensures) (decides w)
