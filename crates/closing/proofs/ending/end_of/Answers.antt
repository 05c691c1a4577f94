-- The file's end is compared in bytes, and its fill looked at in two halves of at most 32 bits.
use native.Mathlib.Nat.{mod-lt, le_of_lt}
use native.Mathlib.Omega.{arith}
use mathlib.Core.Path.{refl, sym, ◌∙◌}
use mathlib.Core.Bool.{true, false}
use Prim.Native.Nat.{◌*◌}
use lib.ListN.{length}
use Rattle.bitstream.specs.Stream.{unpack}
use Rattle.bitstream.proofs.Laws.{filling_lt, length_unpack}
use Rattle.closing.proofs.Endings.{whole, short_end, long_end, ends}
use Rattle.closing.proofs.ending.end_of.Goals as goal

pub overflow_sub-fill : goal.overflow_sub-fill
overflow_sub-fill c =
    let a = c.args in
    le_of_lt (mod-lt a.end.at (omega arith))

pub overflow_cast-fill : goal.overflow_cast-fill
overflow_cast-fill c =
    let a = c.args in
    let l = filling_lt (8 * a.word) a.end.at (omega arith) in
    omega arith

pub overflow_cast-last : goal.overflow_cast-last
overflow_cast-last c =
    let a = c.args in
    let l = filling_lt (8 * a.word) a.end.at (omega arith) in
    omega arith

pub overflow_add-last : goal.overflow_add-last
overflow_add-last c =
    let a = c.args in
    let l = filling_lt (8 * a.word) a.end.at (omega arith) in
    omega arith

pub returns-then-end-last : goal.returns-then-end-last
returns-then-end-last c =
    let a = c.args in
    short_end a.word a.end.at (length a.end.file.now) (unpack a.end.file.now) (length_unpack a.end.file.now) (omega arith) (omega arith) c.if-end-last.true

pub returns-then-last-end : goal.returns-then-last-end
returns-then-last-end c =
    let a = c.args in
    long_end a.word a.end.at (length a.end.file.now) (unpack a.end.file.now) (length_unpack a.end.file.now) (omega arith) (omega arith) c.if-last-end.true

pub zero_field-requires : goal.zero_field-requires
zero_field-requires c =
    let a = c.args in
    let l = filling_lt (8 * a.word) a.end.at (omega arith) in
    let w = whole a.word a.end.at (length a.end.file.now) (unpack a.end.file.now) (length_unpack a.end.file.now) (omega arith) (omega arith) in
    let n = length_unpack a.end.file.now in
    omega arith

pub overflow_cast-half : goal.overflow_cast-half
overflow_cast-half c =
    let a = c.args in
    let l = filling_lt (8 * a.word) a.end.at (omega arith) in
    let w = whole a.word a.end.at (length a.end.file.now) (unpack a.end.file.now) (length_unpack a.end.file.now) (omega arith) (omega arith) in
    let n = length_unpack a.end.file.now in
    omega arith

pub behind-requires : goal.behind-requires
behind-requires c =
    let a = c.args in
    let l = filling_lt (8 * a.word) a.end.at (omega arith) in
    let w = whole a.word a.end.at (length a.end.file.now) (unpack a.end.file.now) (length_unpack a.end.file.now) (omega arith) (omega arith) in
    let n = length_unpack a.end.file.now in
    omega arith

pub zero_field-requires-then-zero_field : goal.zero_field-requires-then-zero_field
zero_field-requires-then-zero_field c =
    let a = c.args in
    let l = filling_lt (8 * a.word) a.end.at (omega arith) in
    let w = whole a.word a.end.at (length a.end.file.now) (unpack a.end.file.now) (length_unpack a.end.file.now) (omega arith) (omega arith) in
    let n = length_unpack a.end.file.now in
    rw c.behind.ensures (omega arith)

pub returns-then-zero_field-2 : goal.returns-then-zero_field-2
returns-then-zero_field-2 c =
    let a = c.args in
    ends a.word a.end.at (length a.end.file.now) (unpack a.end.file.now) (length_unpack a.end.file.now) (omega arith) (omega arith) (omega arith) true true (sym c.zero_field.ensures ∙ c.if-zero_field.true) (sym (rw c.behind.ensures at c.zero_field-then-zero_field.ensures) ∙ c.if-zero_field-2.true)

pub returns-else-zero_field-2 : goal.returns-else-zero_field-2
returns-else-zero_field-2 c =
    let a = c.args in
    ends a.word a.end.at (length a.end.file.now) (unpack a.end.file.now) (length_unpack a.end.file.now) (omega arith) (omega arith) (omega arith) true false (sym c.zero_field.ensures ∙ c.if-zero_field.true) (sym (rw c.behind.ensures at c.zero_field-then-zero_field.ensures) ∙ c.if-zero_field-2.false)

pub returns-else-zero_field : goal.returns-else-zero_field
returns-else-zero_field c =
    let a = c.args in
    ends a.word a.end.at (length a.end.file.now) (unpack a.end.file.now) (length_unpack a.end.file.now) (omega arith) (omega arith) (omega arith) false _ (sym c.zero_field.ensures ∙ c.if-zero_field.false) refl
