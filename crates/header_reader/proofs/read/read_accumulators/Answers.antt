-- Each branch is taken where the definition's test fails, and each test that passed is known to the next.
use mathlib.Core.Bool.{Bool, ◌&&◌}
use mathlib.Core.List.{[], List}
use mathlib.Core.Path.{◌≡◌, sym, ap, ◌∙◌}
use Prim.Native.Nat.{◌+◌, ◌-◌, ◌*◌, ◌≤◌}
use native.Mathlib.Omega.{arith}
use lib.ListN.{length, take, drop, length-drop}
use lib.Dec.{leb}
use borrow.Author.Tests.{ltb-false, not-true, not-false}
use Rattle.bitstream.specs.Stream.{unpack}
use Rattle.settings.specs.declared.Image.{Image}
use Rattle.settings.specs.Tables.{every}
use Rattle.header.specs.Tables.{number_at}
use Rattle.header_reader.proofs.Answering.{PartSeen, illegal, legal_part}
use Rattle.header_reader.proofs.TableReading.{accumulators_none, accumulators_tabled, table_absent, table_seen, entries_in_file}
use Rattle.header_reader.specs.Answers.{table_read}
use Rattle.header.specs.Read.{read_accumulators}
use Rattle.header.specs.Read.{read_table}
use Rattle.header.specs.Sizes.{padded}
use mathlib.Core.Bool.{not}
use Rattle.header_reader.proofs.read.read_accumulators.Goals as goal

-- the test of the entries
abbrev legal : Image → List Bool → Bool
legal I t = every I.nz (λ z. leb (number_at 4 t z) (I.depth - 2))

pub returns-then-not-coder : goal.returns-then-not-coder
returns-then-not-coder c = sym (ap table_read (accumulators_none _ _ _ (not-true _ c.if-not-coder.true)))

pub returns-then-ends_before : goal.returns-then-ends_before
returns-then-ends_before c =
    let table : let a = c.args in let l = drop a.entries.at (unpack a.entries.file.now) in read_accumulators a.image a.coder l ≡ read_table (4 * a.image.nz) (legal a.image) l =
    accumulators_tabled _ _ _ (not-false _ c.if-not-coder.false) in
    let a = c.args in
    sym (ap table_read (table ∙ table_absent (unpack a.entries.file.now) a.entries.at (4 * a.image.nz) (legal a.image) (omega arith) c.padded-size.result c.padded-size.ensures.0 c.ends_before.result c.ends_before.ensures c.if-ends_before.true))

pub returns-then-not-entries_legal-fill_clear : goal.returns-then-not-entries_legal-fill_clear
returns-then-not-entries_legal-fill_clear c =
    let table : let a = c.args in let l = drop a.entries.at (unpack a.entries.file.now) in read_accumulators a.image a.coder l ≡ read_table (4 * a.image.nz) (legal a.image) l =
    accumulators_tabled _ _ _ (not-false _ c.if-not-coder.false) in
    let room : c.args.entries.at + c.padded-size.result ≤ length (unpack c.args.entries.file.now) =
    ltb-false _ _ (sym c.ends_before.ensures ∙ c.if-ends_before.false) in
    let seen : let a = c.args in let l = drop a.entries.at (unpack a.entries.file.now) in let n = 4 * a.image.nz in
    PartSeen (read_table n (legal a.image) l) (padded n) (c.entries_legal.result && c.fill_clear.result) [] (take n l) l =
    let a = c.args in
    let F = unpack a.entries.file.now in
    let e = c.ends_before in
    table_seen F a.entries.at (4 * a.image.nz) (legal a.image) (omega arith) c.padded-size.result c.padded-size.ensures.0 e.result e.ensures
    c.entries_legal.result c.fill_clear.result c.if-ends_before.false (c.entries_legal.ensures ∙ entries_in_file F a.entries.at a.image.nz (a.image.depth - 2) (rw length-drop (omega (arith, room)))) (rw c.behind.ensures at c.fill_clear.ensures) in
    sym (ap table_read (table ∙ illegal seen (ap not c.if-not-entries_legal-fill_clear.true)))

pub returns : goal.returns
returns c =
    let table : let a = c.args in let l = drop a.entries.at (unpack a.entries.file.now) in read_accumulators a.image a.coder l ≡ read_table (4 * a.image.nz) (legal a.image) l =
    accumulators_tabled _ _ _ (not-false _ c.if-not-coder.false) in
    let room : c.args.entries.at + c.padded-size.result ≤ length (unpack c.args.entries.file.now) =
    ltb-false _ _ (sym c.ends_before.ensures ∙ c.if-ends_before.false) in
    let seen : let a = c.args in let l = drop a.entries.at (unpack a.entries.file.now) in let n = 4 * a.image.nz in
    PartSeen (read_table n (legal a.image) l) (padded n) (c.entries_legal.result && c.fill_clear.result) [] (take n l) l =
    let a = c.args in
    let F = unpack a.entries.file.now in
    let e = c.ends_before in
    table_seen F a.entries.at (4 * a.image.nz) (legal a.image) (omega arith) c.padded-size.result c.padded-size.ensures.0 e.result e.ensures
    c.entries_legal.result c.fill_clear.result c.if-ends_before.false (c.entries_legal.ensures ∙ entries_in_file F a.entries.at a.image.nz (a.image.depth - 2) (rw length-drop (omega (arith, room)))) (rw c.behind.ensures at c.fill_clear.ensures) in
    sym (ap table_read (table ∙ legal_part seen (ap not c.if-not-entries_legal-fill_clear.false)))
