-- The look's answer is that of the header's reader, which opening goes through first.
use Rattle.std.specs.Prelude.{◌≡◌, Bool, List, ℕ, ◌-◌, ℤ, pos, length, replicate, Result, Ok, Err}
use Rattle.std.proofs.Common.{sym, ap, ◌∙◌, arith}
use Rattle.bitstream.specs.Stream.{unpack}
use Rattle.refusals.specs.declared.Refusal.{Refusal}
use Rattle.refusals.specs.Reading.{Read, refused, got}
use Rattle.settings.specs.declared.Settings.{Settings}
use Rattle.settings.specs.Legal.{sample_count}
use Rattle.refusals.specs.ReadingLaws.{passed, no_test, sequenced}
use Rattle.body.specs.Order.{order}
use Rattle.body.specs.Body.{read_body}
use Rattle.header.specs.Read.{Header, read_header}
use Rattle.header_reader.specs.Answers.{Begins}
use Rattle.cube.specs.Look.{look_answer, looked}
use Rattle.cube.specs.Answers.{opened_number, looked_value}
use Rattle.cube.specs.Areas.{Looks}
use Rattle.cube.specs.Open.{Cube, Lent, at_end, behind_header, opened_bits, opened}

-- the answer makes the statement: number and value are the answer's
looks_as : (bytes : List ℕ) {r : Result Settings Refusal} → r ≡ looked bytes → Looks bytes r
looks_as bytes e = record { answer = e; number_is = ap opened_number e; value_is = ap looked_value e }

-- a file that begins with a header of some settings shows these
pub look_settings : (bytes : List ℕ) (S : Settings) (at : ℕ) → Begins (unpack bytes) S at → Looks bytes (Ok S)
unfolding looked look_answer
look_settings bytes S at b = looks_as bytes (sym (ap look_answer b.read ∙ ap Ok b.settings))

pub look_refused : (bytes : List ℕ) (why : Refusal) → read_header (unpack bytes) ≡ refused why → Looks bytes (Err why)
unfolding looked look_answer
look_refused bytes why e = looks_as bytes (sym (ap look_answer e))

-- ---- the look and opening

end_settings : (h : Header) (end : ℕ) (x : List ℤ) (l : List Bool) (c : Cube) (r : List Bool) → at_end h end x l ≡ got c r → h.settings ≡ c.settings
unfolding at_end
end_settings h end x l c r e =
    let p = passed _ _ _ _ c r e in
    let q = passed _ _ _ _ c r p.1 in
    let g = sym (no_test _) ∙ q.1 in
    ap settings_in g
  where
    settings_in : Read Cube → Settings
    settings_in (got d s) = d.settings
    settings_in (refused w) = h.settings

behind_settings : (lent : Lent) (size : ℕ) (h : Header) (l : List Bool) (c : Cube) (r : List Bool) → behind_header lent size h l ≡ got c r → h.settings ≡ c.settings
unfolding behind_header
behind_settings lent size h l c r e =
    let p = passed _ _ _ _ c r e in
    let q = passed _ _ _ _ c r p.1 in
    let s = sequenced
    (read_body h.settings h.tables 0 (order h.settings.image) (replicate (sample_count h.settings.image) (pos 0)) l)
    (λ samples rest. at_end h (size - length rest) samples rest) c r (sym (no_test _) ∙ q.1) in
    end_settings h (size - length s.behind) s.value s.behind c r s.then

-- the header of a file that opens has the settings that are answered
pub record Headed (bytes : List ℕ) (S : Settings) : Type 0 where
  pub header : Header
  pub behind : List Bool
  pub read : read_header (unpack bytes) ≡ got header behind
  pub settings : header.settings ≡ S

pub opened_headed : (lent : Lent) (bytes : List ℕ) (c : Cube) (r : List Bool) → opened lent bytes ≡ got c r → Headed bytes c.settings
unfolding opened opened_bits
opened_headed lent bytes c r e =
    let s = sequenced _ _ c r e in
    record { header = s.value; behind = s.behind; read = s.first; settings = behind_settings lent _ s.value s.behind c r s.then }

-- so the look shows what opening answers
pub looked_opened : (lent : Lent) (bytes : List ℕ) (c : Cube) (r : List Bool) → opened lent bytes ≡ got c r → looked bytes ≡ Ok c.settings
unfolding looked look_answer
looked_opened lent bytes c r e = let h = opened_headed lent bytes c r e in ap look_answer h.read ∙ ap Ok h.settings

-- a header's refusal is also the file's
pub header_refused : (lent : Lent) (bytes : List ℕ) (w : Refusal) → read_header (unpack bytes) ≡ refused w → opened lent bytes ≡ refused w
unfolding opened opened_bits
header_refused lent bytes w e = rw e

-- what the look refuses, the header's reader does
pub looked_refused : (bytes : List ℕ) (w : Refusal) → looked bytes ≡ Err w → read_header (unpack bytes) ≡ refused w
unfolding looked look_answer
looked_refused bytes w = go (read_header (unpack bytes))
  where
    go : (x : Read Header) → look_answer x ≡ Err w → x ≡ refused w
    go (got h r) e = let z : ◌≡◌ {A = ℕ} 0 1 = cc in absurd (omega arith)
    go (refused v) e = cc
