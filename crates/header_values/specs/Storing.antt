-- The table area filled from the header's tables, once they are known to be there.
use Rattle.std.specs.Prelude.{◌≡◌, Bool, cond, List, ◌++◌, ℕ, ◌+◌, ◌*◌, ◌≤◌, eqb, ℤ, pos, length, take, drop}
use Rattle.bitstream.specs.Stream.{number}
use Rattle.refusals.specs.Reading.{got}
use Rattle.settings.specs.declared.Settings.{Settings}
use Rattle.settings.specs.Tables.{table_stride, parameter_slot}
use Rattle.header.specs.Parts.{predictor_end}
use Rattle.header.specs.Tables.{signed_of, used}
use Rattle.header.specs.Read.{read_accumulators, Header, read_header}
use Rattle.header_values.specs.Progress.{CoderDone}

-- the file F begins with a header of the settings S, and the area has a slot for each value of its tables
pub record Storing (F : List Bool) (S : Settings) (tables : List ℤ) : Type 0 where
  pub header : Header
  pub at : ℕ
  pub read : read_header F ≡ got header (drop at F)
  pub settings : header.settings ≡ S
  pub area : table_stride * S.image.nz ≤ length tables

-- the area begins with the header's tables, and what is behind them is as before
pub record Stored (F : List Bool) (S : Settings) (entry exit : List ℤ) : Type 0 where
  pub stored : (h : Header) (l : List Bool) → read_header F ≡ got h l → exit ≡ h.tables ++ drop (table_stride * S.image.nz) entry

-- all parts of the header are read off the file F, and its table of k' stands at the position `at`
pub record AccumulatorsDone (F : List Bool) (S : Settings) (at : ℕ) : Type 0 where
  pub before : CoderDone F S at
  pub table : List Bool
  pub behind : List Bool
  pub accumulators : read_accumulators S.image S.coder (drop at F) ≡ got table behind

-- slot i of band z, off the file: k' counted from `at`, and the weights from weight number `first` of the table on
abbrev pub slot_in : List Bool → Settings → ℕ → ℕ → ℕ → ℕ → ℤ
slot_in F S at first z i =
    cond (used S z i)
    (cond (eqb i parameter_slot) (pos (number (take 4 (drop (at + 4 * z) F))))
    (signed_of S.predictor.precision (number (take S.predictor.precision (drop (predictor_end + S.predictor.precision * (first + i)) F)))))
    (pos 0)

-- the first n values of T, and what is behind them as in `entry`
abbrev pub laid : List ℤ → ℕ → List ℤ → List ℤ
laid T n entry = take n T ++ drop n entry

-- band z is laid behind those before it
pub record BandStored (F : List Bool) (z : ℕ) (entry exit : List ℤ) : Type 0 where
  pub long : length exit ≡ length entry
  pub stored : (h : Header) (l : List Bool) (first : List ℤ) → read_header F ≡ got h l → entry ≡ laid h.tables (table_stride * z) first → exit ≡ laid h.tables (table_stride * z + table_stride) first
