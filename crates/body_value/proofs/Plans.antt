-- What is looked up once, as facts: the range is small, and the interval is the power of 2 that its halvings say.
use Rattle.std.proofs.Common.{◌≡◌, refl, sym, ap, ◌∙◌, true, List, ℕ, zero, suc, ◌*◌, ◌/◌, ◌^◌, ◌<◌, ◌≤◌, max, ℤ, nat_abs, mul_comm, mul-le-mul, mul-le-mul_right, arith, pow_pos, pow_mono, le-leb}
use Rattle.std.proofs.Math.Decide.{dec_le}
use borrow.Author.Tests.{lt-leb}
use Rattle.integers.proofs.Laws.{le_parts, one0, abs_parts}
use Rattle.settings.specs.declared.Settings.{Settings}
use Rattle.settings.specs.declared.range.Range.{Range}
use Rattle.settings.specs.Legal.{settings_legal, limited}
use Rattle.settings.specs.Limits.{most_samples}
use Rattle.settings.specs.LegalLaws.{LegalSettings, legal_settings, limited_facts}
use Rattle.settings.specs.Range.{lowest, middle, highest}
use Rattle.settings.specs.RangeLaws.{small}
use Rattle.predictor.specs.Prediction.{inner, scaled_by, scaled_prediction}
use Rattle.predictor.specs.WeightUpdate.{exponent_by, exponent}
use Rattle.predictor.specs.Mapping.{mapped_by, mapped}
use Rattle.body_value.specs.declared.plan.Plan.{Plan}
use Rattle.body_value.specs.Planned.{halvings, Planned}

-- ---- sizes

pub area_few : (S : Settings) → settings_legal S ≡ true → limited S.image ≡ true → S.image.nx * S.image.ny ≤ most_samples
area_few S h k =
    let n : 1 ≤ S.image.nz = (legal_settings S h).image.nz_least in
    let m : 1 * (S.image.nx * S.image.ny) ≤ S.image.nz * (S.image.nx * S.image.ny) = mul-le-mul_right (S.image.nx * S.image.ny) n in
    omega (arith, (limited_facts S.image k).few_samples, mul_comm (S.image.nx * S.image.ny) S.image.nz)

pub area_fits : (S : Settings) → settings_legal S ≡ true → S.image.nx * S.image.ny ≤ 2 ^ 32
area_fits S h =
    let l = (legal_settings S h).image in
    let a : S.image.nx ≤ 2 ^ 16 = let m = l.nx_most in omega arith in
    let b : S.image.ny ≤ 2 ^ 16 = let m = l.ny_most in omega arith in
    let m : S.image.nx * S.image.ny ≤ 2 ^ 16 * 2 ^ 16 = mul-le-mul a b in
    omega arith

-- ---- halvings

pub halved_once : (n x : ℕ) → 1 < x → halvings (suc n) x ≡ suc (halvings n (x / 2))
unfolding halvings
halved_once n x h = rw (lt-leb x 1 h)

pub halved_out : (n x : ℕ) → x ≤ 1 → halvings n x ≡ 0
unfolding halvings
halved_out zero x h = refl
halved_out (suc n) x h = rw (le-leb x 1 h)

-- a number from 2 ^ e up to the next power is halved e times
halvings_log : (n x e : ℕ) → e ≤ n → 2 ^ e ≤ x → x < 2 * 2 ^ e → halvings n x ≡ e
halvings_log n x zero h low high = halved_out n x (omega arith)
halvings_log zero x (suc e) h low high = absurd (omega arith)
halvings_log (suc n) x (suc e) h low high =
    let p : 0 < 2 ^ e = pow_pos e in
    let d : 2 ^ suc e ≡ 2 ^ e * 2 = omega arith in
    halved_once n x (omega arith) ∙ ap suc (halvings_log n (x / 2) e (omega arith) (omega arith) (omega arith))

halvings_power : (n e : ℕ) → e ≤ n → halvings n (2 ^ e) ≡ e
halvings_power n e h = let p : 0 < 2 ^ e = pow_pos e in halvings_log n (2 ^ e) e h (omega arith) (omega arith)

-- the whole part of the logarithm to base 2, and none of 0
pub halvings_is : (x m e : ℕ) → x ≤ 2 ^ 11 → m ≡ max x 1 → 2 ^ e ≤ m → m < 2 * 2 ^ e → e ≡ halvings 11 x
halvings_is zero m e h i low high =
    let one : m ≡ 1 = omega arith in
    let p : 2 * 2 ^ e ≡ 2 ^ suc e = omega arith in
    none e (omega arith) ∙ sym (halved_out 11 0 (omega arith))
  where
    none : (e : ℕ) → 2 ^ e ≤ 1 → e ≡ 0
    none zero q = refl
    none (suc e) q = let p : 0 < 2 ^ e = pow_pos e in absurd (omega arith)
halvings_is (suc x) m e h i low high =
    let same : m ≡ suc x = omega arith in
    sym (halvings_log 11 (suc x) e (few (dec_le e 11)) (omega arith) (omega arith))
  where
    few : Dec (e ≤ 11) → e ≤ 11
    few (yes l) = l
    few (no l) = let p : 2 ^ 12 ≤ 2 ^ e = pow_mono {i = 12} {j = e} (omega arith) in absurd (omega arith)

-- ---- legal settings

pub depth_in : (S : Settings) → settings_legal S ≡ true → (1 ≤ S.image.depth) × (S.image.depth ≤ 16)
depth_in S h = let l = (legal_settings S h).image in (omega (arith, l.depth_least), l.depth_most)

pub interval_is : (S : Settings) → settings_legal S ≡ true → S.predictor.interval ≡ 2 ^ halvings 11 S.predictor.interval
interval_is S h =
    let p = (legal_settings S h).predictor.interval_power in
    let e : halvings 11 S.predictor.interval ≡ p.exponent = ap (halvings 11) p.is ∙ halvings_power 11 p.exponent p.most in
    p.is ∙ ap (λ (n : ℕ). 2 ^ n) (sym e)

pub interval_most : (S : Settings) → settings_legal S ≡ true → S.predictor.interval ≤ 2 ^ 11
interval_most S h = let p = (legal_settings S h).predictor.interval_power in rw p.is (pow_mono {j = 11} p.most)

pub halvings_most : (S : Settings) → settings_legal S ≡ true → halvings 11 S.predictor.interval ≤ 11
halvings_most S h =
    let p = (legal_settings S h).predictor.interval_power in
    let e : halvings 11 S.predictor.interval ≡ p.exponent = ap (halvings 11) p.is ∙ halvings_power 11 p.exponent p.most in
    let m = p.most in
    omega arith

-- ---- the plan

-- of legal settings
pub planned : (S : Settings) {range : Range} {e : ℕ} → settings_legal S ≡ true
    → (range.low ≡ lowest S.image) × (range.middle ≡ middle S.image) × (range.high ≡ highest S.image) → e ≡ halvings 11 S.predictor.interval
    → Planned S S.image.nx (S.image.nx * S.image.ny) range e
planned S h r i = record {
  legal = h;
  nx_is = refl;
  area_is = refl;
  low_is = r.0;
  middle_is = r.1;
  high_is = r.2;
  interval_is = rw i (interval_is S h);
  interval_few = rw i (halvings_most S h);
}

module _ (P : Plan) where
  abbrev S : Settings
  S = P.settings

  pub legal : LegalSettings P.settings
  legal = legal_settings S P.planned.legal

  pub deep : 1 ≤ P.settings.image.depth
  deep = omega (arith, legal.image.depth_least)

  pub middle_small : nat_abs P.range.middle ≤ 65535
  middle_small = rw P.planned.middle_is (let m = (small S.image deep legal.image.depth_most).middle_small in omega arith)

  -- what is computed from the plan is the settings'
  pub scaled_is : {s~ : ℤ} (sum : ℤ) (us ws : List ℤ)
      → s~ ≡ scaled_by P.settings.predictor.register P.settings.predictor.resolution P.range.low P.range.middle P.range.high (inner ws us) sum
      → s~ ≡ scaled_prediction P.settings sum us ws
  unfolding scaled_prediction
  scaled_is sum us ws e = e ∙ rw (P.planned.low_is, P.planned.middle_is, P.planned.high_is)

  pub mapped_is : {δ : ℕ} (s~ s : ℤ) → δ ≡ mapped_by P.range.low P.range.high s~ s → δ ≡ mapped P.settings s~ s
  unfolding mapped
  mapped_is s~ s e = e ∙ rw (P.planned.low_is, P.planned.high_is)

  pub exponent_is : {ρ : ℤ} (t : ℕ)
      → ρ ≡ exponent_by P.settings.image.nx (2 ^ P.interval) P.settings.predictor.vmin P.settings.predictor.vmax P.settings.image.depth P.settings.predictor.resolution t
      → ρ ≡ exponent P.settings t
  unfolding exponent
  exponent_is t e =
      e ∙ ap (λ (i : ℕ). exponent_by S.image.nx i S.predictor.vmin S.predictor.vmax S.image.depth S.predictor.resolution t) (sym P.planned.interval_is)

-- the ends of the weight exponent's range
module _ {S : Settings} (l : LegalSettings S) where
  pub vmin_small : nat_abs S.predictor.vmin ≤ 9
  vmin_small =
      let v = S.predictor.vmin in
      let w = S.predictor.vmax in
      let a = le_parts l.predictor.vmin_least in
      let b = le_parts l.predictor.vmin_vmax in
      let c = le_parts l.predictor.vmax_most in
      omega (arith, one0 v, one0 w, abs_parts v)

  pub vmax_small : nat_abs S.predictor.vmax ≤ 9
  vmax_small =
      let v = S.predictor.vmin in
      let w = S.predictor.vmax in
      let a = le_parts l.predictor.vmin_least in
      let b = le_parts l.predictor.vmin_vmax in
      let c = le_parts l.predictor.vmax_most in
      omega (arith, one0 v, one0 w, abs_parts w)
