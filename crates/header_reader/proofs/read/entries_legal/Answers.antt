-- The test of all entries is the definition's.
use Rattle.std.proofs.Common.{ℕ, ◌+◌, ◌-◌, ◌*◌, take, drop, leb, refl, ◌∙◌, arith, rules, tests}
use Rattle.std.proofs.lemmas.Iterator.{YieldsList-from_range}
use Rattle.std.proofs.lemmas.Iterator.Search.{all_from_yields_List}
use Rattle.bitstream.specs.Stream.{number, unpack}
use Rattle.header_reader.proofs.TableReading.{every_listed}
use Rattle.header_reader.proofs.read.entries_legal.Goals as goal

pub returns : goal.returns
returns c =
    let a = c.args in
    let legal = λ (z : ℕ). leb (number (take 4 (drop (a.entries.at + 4 * z) (unpack a.entries.file.now)))) (a.image.depth - 2) in
    all_from_yields_List legal _ _ c.all.result c.all.ensures.ran (YieldsList-from_range 0 a.image.nz a.image.nz refl (omega arith)) (λ x b q k. search (rules, tests)) ∙ every_listed legal a.image.nz
