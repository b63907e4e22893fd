use Rattle.std.proofs.Common.{rules, ◌≡◌, refl}
use Rattle.memory.specs.Bytes.{plain}
use Rattle.memory.specs.Promise.{answer_of}
use Rattle.memory.specs.declared.access.Access.TheVariants.{Store}
use Rattle.storage.specs.Contents.{cells_of, ram_uses, bytes_after}
use Rattle.storage.proofs.Storing.{accessed_says}
use Rattle.storage.proofs.ram.RamDataMemory.store.Goals as goal

pub returns-clause-keeps : goal.returns-clause-keeps
returns-clause-keeps c =
    let xs = c.args.self.now.bytes.now in
    let x = Store c.args.address c.args.width c.args.value in
    let answer : c.into.result ≡ answer_of (plain (cells_of ram_uses xs) x) = search rules in
    let bytes : c.store.new.bytes ≡ bytes_after ram_uses xs x = search rules in
    record { says = accessed_says ram_uses xs c.store.new.bytes x _ answer bytes; same = refl; stays = tt }
