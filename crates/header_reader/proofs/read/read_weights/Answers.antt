-- Each branch is taken where the definition's test fails, and each test that passed is known to the next.
use mathlib.Core.Bool.{true, ◌&&◌}
use mathlib.Core.List.{[]}
use mathlib.Core.Path.{◌≡◌, refl, sym, ap, ◌∙◌}
use native.Mathlib.Omega.{arith}
use lib.ListN.{take, drop}
use borrow.Author.Tests.{not-true, not-false}
use Rattle.bitstream.specs.Stream.{unpack}
use Rattle.header.specs.Parts.{predictor_end}
use Rattle.header_reader.proofs.Answering.{PartSeen, illegal, legal_part}
use Rattle.header_reader.proofs.TableReading.{weights_default, weights_custom, table_absent, table_seen}
use Rattle.header_reader.specs.Answers.{table_read}
use Rattle.header.specs.Read.{read_table}
use Rattle.header.specs.Read.{read_weights}
use Rattle.header.specs.Sizes.{padded}
use mathlib.Core.Bool.{not}
use Rattle.header_reader.proofs.read.read_weights.Goals as goal

pub returns-then-not-predictor : goal.returns-then-not-predictor
returns-then-not-predictor c = sym (ap table_read (weights_default _ _ _ (not-true _ c.if-not-predictor.true)))

pub returns-then-ends_before : goal.returns-then-ends_before
returns-then-ends_before c =
    let table : let a = c.args in let l = drop predictor_end (unpack a.file.now) in read_weights a.image a.predictor l ≡ read_table c.weight_bits-n.result (λ t. true) l =
    weights_custom _ _ _ _ (not-false _ c.if-not-predictor.false) c.weight_bits-n.ensures.0 in
    let a = c.args in
    sym (ap table_read (table ∙ table_absent (unpack a.file.now) predictor_end c.weight_bits-n.result (λ t. true) (omega arith) c.padded-size.result c.padded-size.ensures.0 c.ends_before.result c.ends_before.ensures c.if-ends_before.true))

pub returns-then-not-fill_clear : goal.returns-then-not-fill_clear
returns-then-not-fill_clear c =
    let table : let a = c.args in let l = drop predictor_end (unpack a.file.now) in read_weights a.image a.predictor l ≡ read_table c.weight_bits-n.result (λ t. true) l =
    weights_custom _ _ _ _ (not-false _ c.if-not-predictor.false) c.weight_bits-n.ensures.0 in
    let seen : let l = drop predictor_end (unpack c.args.file.now) in let n = c.weight_bits-n.result in
    PartSeen (read_table n (λ t. true) l) (padded n) (true && c.fill_clear.result) [] (take n l) l =
    let a = c.args in
    table_seen (unpack a.file.now) predictor_end c.weight_bits-n.result (λ t. true) (omega arith) c.padded-size.result c.padded-size.ensures.0 c.ends_before.result c.ends_before.ensures
    true c.fill_clear.result c.if-ends_before.false refl c.fill_clear.ensures in
    sym (ap table_read (table ∙ illegal seen (ap not c.if-not-fill_clear.true)))

pub returns : goal.returns
returns c =
    let table : let a = c.args in let l = drop predictor_end (unpack a.file.now) in read_weights a.image a.predictor l ≡ read_table c.weight_bits-n.result (λ t. true) l =
    weights_custom _ _ _ _ (not-false _ c.if-not-predictor.false) c.weight_bits-n.ensures.0 in
    let seen : let l = drop predictor_end (unpack c.args.file.now) in let n = c.weight_bits-n.result in
    PartSeen (read_table n (λ t. true) l) (padded n) (true && c.fill_clear.result) [] (take n l) l =
    let a = c.args in
    table_seen (unpack a.file.now) predictor_end c.weight_bits-n.result (λ t. true) (omega arith) c.padded-size.result c.padded-size.ensures.0 c.ends_before.result c.ends_before.ensures
    true c.fill_clear.result c.if-ends_before.false refl c.fill_clear.ensures in
    sym (ap table_read (table ∙ legal_part seen (ap not c.if-not-fill_clear.false)))
