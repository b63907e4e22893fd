use Rattle.std.proofs.Common.{◌∙◌, rules, tests, arith}
use Rattle.std.proofs.lemmas.Iterator.{YieldsList-from_range}
use Rattle.std.proofs.lemmas.Iterator.Consumers.{YieldsList-from_filter, count_from_yields_List}
use Rattle.std.proofs.lemmas.List.Sums.{length-filter}
use Rattle.std.specs.List.{range_with_len}
use Rattle.image.specs.declared.Kind.TheVariants.{Data}
use Rattle.disassembly.specs.Rows.{covered, covered_bytes}
use Rattle.disassembly.proofs.cover.covered_bytes.Goals as goal

pub returns : goal.returns
unfolding covered_bytes
returns c =
    let rows = c.args.rows.now in
    let n = c.args.len in
    count_from_yields_List c.filter.result _ c.count.ensures.ran
    (YieldsList-from_filter _ (λ k. covered Data 1 k rows) (YieldsList-from_range 0 n n c.filter.ensures.source (omega arith)) c.filter.ensures.closure (λ x r q k. search (rules, tests)))
    ∙ length-filter (λ k. covered Data 1 k rows) (range_with_len 0 n)
