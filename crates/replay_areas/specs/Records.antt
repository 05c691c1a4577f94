-- What the four words of a record say.
use Rattle.std.specs.Prelude.{◌≡◌, ℕ, ◌%◌, ◌<◌, ◌⊎◌, List, slice_index, Result, MatchResult}
use Rattle.replay_areas.specs.declared.records.Area.{Area}
use Rattle.replay_areas.specs.declared.records.Area.TheVariants.{Settings, Tables, Image, Scratch}
use Rattle.replay_areas.specs.declared.records.Call.{Call}
use Rattle.replay_areas.specs.declared.records.Call.TheVariants.{Pack, Length, Open, Look}
use Rattle.replay_areas.specs.declared.records.Record.{Record}
use Rattle.replay_areas.specs.declared.records.Record.TheVariants.{Lend, File, Make, End}
use Rattle.replay_areas.specs.declared.records.UnknownKind.{UnknownKind}

-- the kind of the record that lends an area
abbrev pub lends : Area → ℕ
lends Settings = 1
lends Tables = 2
lends Image = 3
lends Scratch = 4

-- the kind of the record that makes a call
abbrev pub makes : Call → ℕ
makes Pack = 11
makes Length = 12
makes Open = 13
makes Look = 14

-- the words are those of the record
abbrev pub Says : List ℕ → Record → Type 0
Says words (Lend area lent given) = (slice_index words 0 ≡ lends area) × (lent ≡ slice_index words 1) × (given ≡ slice_index words 2)
Says words (File given) = (slice_index words 0 ≡ 5) × (given ≡ slice_index words 2)
Says words (Make call change) =
    (slice_index words 0 ≡ makes call) × (change.place ≡ slice_index words 1) × (change.byte ≡ slice_index words 2 % 256)
    × (change.length ≡ slice_index words 3)
Says words End = slice_index words 0 ≡ 0

-- no record is of that kind
abbrev pub Unknown : ℕ → Type 0
Unknown kind = ((5 < kind) × (kind < 11)) ⊎ (14 < kind)

-- the record that the words are those of, or an error where there is none
abbrev pub Reads : List ℕ → Result Record UnknownKind → Type 0
Reads words r = MatchResult r (Says words) (λ _. Unknown (slice_index words 0))
