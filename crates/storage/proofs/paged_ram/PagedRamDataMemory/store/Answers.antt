use Rattle.std.proofs.Common.{rules, ◌≡◌}
use Rattle.memory.specs.Bytes.{plain}
use Rattle.memory.specs.Promise.{answer_of}
use Rattle.memory.specs.declared.access.Access.TheVariants.{Store}
use Rattle.storage.specs.Contents.{cells_of, paged_uses, bytes_after}
use Rattle.storage.proofs.Storing.{accessed_says}
use Rattle.storage.proofs.paged_ram.PagedRamDataMemory.store.Goals as goal

pub returns-clause-keeps : goal.returns-clause-keeps
returns-clause-keeps c =
    let xs = c.args.self.now.bytes.now in
    let x = Store c.args.address c.args.width c.args.value in
    let used = paged_uses c.args.self.now.pages in
    let ys = c.write.new.self.bytes.now in
    let pages = c.write.ensures.pages in
    let answer : c.into.result ≡ answer_of (plain (cells_of used xs) x) = search rules in
    let bytes : ys ≡ bytes_after used xs x = search rules in
    record { says = rw pages (accessed_says used xs ys x _ answer bytes); same = search rules; stays = tt }
