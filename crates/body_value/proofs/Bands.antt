-- A band begun: its first weights in front, its first statistics behind them, and nothing else is looked at.
use Rattle.std.proofs.Common.{◌≡◌, sym, ◌∙◌, ap, List, ◌++◌, ℕ, ◌+◌, ◌^◌, ◌≤◌, arith, ℤ, pos, length, set, take, drop, length-append, length-drop, length-take, pow_mono, take_at, take-take, length-take-le}
use borrow.Rule.Slice.PartMut.{put_mid}
use Rattle.settings.specs.declared.Settings.{Settings}
use Rattle.settings.specs.Tables.{component_count}
use Rattle.settings.specs.TableLaws.{legal_tables, components_fit}
use Rattle.predictor.specs.Weights.{initial_weights}
use Rattle.predictor.specs.Band.{weights_at}
use Rattle.predictor.specs.Each.{each_map}
use Rattle.predictor.specs.Lengths.{initial_weights_length}
use Rattle.predictor.specs.SizeLaws.{Size}
use Rattle.predictor.specs.WeightLaws.{InWeights, weight_size, initial_weights_range}
use Rattle.predictor.specs.Asks as asks
use Rattle.coder.specs.Asks.{rescaling_fits}
use Rattle.coder.specs.declared.Statistics.{Statistics}
use Rattle.coder.specs.Statistics.{initial_statistics, statistics_at}
use Rattle.coder.specs.StatisticsLaws.{Tame, initial_tame}
use Rattle.coder.proofs.Firsts.{parameter_fits}
use Rattle.body_value.specs.declared.plan.Plan.{Plan}
use Rattle.body_value.specs.Coder.{statistics_in, Keeping}
use Rattle.body_value.specs.Value.{Startable, Started}
use Rattle.body_value.proofs.Plans.{legal}
use Rattle.body_value.proofs.Codes.{counted, with_in, with_counts}
use Rattle.body_value.proofs.Values.{mid_front, mid_behind, mid_long}

module _ {P : Plan} {tables l : List ℤ} {z : ℕ} (b : Startable P tables l z) (n : ℕ) (e : n ≡ component_count P.settings.predictor z) where
  abbrev S : Settings
  S = P.settings

  few : n ≤ 18
  few = let h = components_fit S.predictor z (legal P).predictor.bands_most in omega arith

  pub prefix_in : n ≤ length l
  prefix_in = let h = few in let m = b.long in omega arith

  pub prefix_long : length (take n l) ≡ n
  prefix_long = length-take-le n l prefix_in

  pub weighing : asks.Beginning P.settings tables (take n l) z
  weighing = record {
    legal = b.begins.legal;
    tables_legal_lem = b.begins.tables_legal_lem;
    tables_long = b.begins.tables_long;
    band_in = b.begins.band_in;
    long = prefix_long ∙ e;
  }

  module _ (ws : List ℤ) (ew : ws ≡ initial_weights P.settings tables z) (s : Statistics) (es : s ≡ initial_statistics P.settings tables z) where
    abbrev x : List ℤ
    x = ws ++ drop n l

    ws_long : length ws ≡ n
    ws_long = ap length ew ∙ initial_weights_length S tables z ∙ sym e

    pub x_long : length (ws ++ drop n l) ≡ 32
    x_long = length-append ws (drop n l) ∙ rw (length-drop, ws_long) (let m = b.long in let k = few in omega arith)

    behind_long : length (take 14 (drop 18 x)) ≡ 14
    behind_long = rw (length-take, length-drop, x_long) (omega arith)

    first_tame : Tame S.image.depth S.coder.rescaling s
    first_tame = rw es (initial_tame S tables z (record { rescaled = (legal P).coder.rescaling_above; parameter_fits = parameter_fits b.begins }))

    pub keeping : Keeping (take 14 (drop 18 (ws ++ drop n l))) s
    keeping =
        let c = counted (legal P).image.depth_most (rescaling_fits (legal P).coder) first_tame in
        record { long = behind_long; count_fits = let m = c.count_most in omega arith; accumulator_fits = let m = c.accumulator_most in omega arith }

    module _ (l' : List ℤ) (el : l' ≡ set (set (take 14 (drop 18 (ws ++ drop n l))) 0 (pos s.count)) 1 (pos s.accumulator)) (n' : length l' ≡ 14) where
      ws_are : take (component_count S.predictor z) (take 18 (put_mid 18 14 x l')) ≡ initial_weights S tables z
      ws_are =
          ap (take (component_count S.predictor z)) (mid_front l' n' x x_long)
          ∙ ap (λ (m : ℕ). take m (take 18 x)) (sym e) ∙ take-take n 18 x few ∙ take_at ws (drop n l) n ws_long ∙ ew

      statistics_are : statistics_in (take 14 (drop 18 (put_mid 18 14 x l'))) ≡ initial_statistics S tables z
      statistics_are = ap statistics_in (mid_behind l' n' x x_long ∙ el) ∙ with_in (take 14 (drop 18 x)) s behind_long ∙ es

      pub started : Started P tables z (put_mid 18 14 (ws ++ drop n l) l')
      unfolding weights_at statistics_at
      started =
          let Ω = S.predictor.resolution in
          let fine : Ω + 2 ≤ 21 = omega (arith, (legal P).predictor.resolution_most) in
          let wide : 2 ^ (Ω + 2) ≤ 2 ^ 21 = pow_mono fine in
          record {
            fits = record {
              long = mid_long l' n' x x_long;
              weights = record {
                long = length-take-le 18 (put_mid 18 14 x l') (let m = mid_long l' n' x x_long in omega arith);
                small = rw ws_are (each_map (InWeights Ω) (Size (2 ^ 21)) (λ w k. let m = weight_size Ω w k in omega arith) (initial_weights S tables z)
                    (initial_weights_range S tables z (legal P) (legal_tables S tables b.begins.tables_legal_lem z b.begins.band_in)));
              };
              counts = rw (mid_behind l' n' x x_long, el) (with_counts (take 14 (drop 18 x)) s behind_long S first_tame);
            };
            held = λ I. record { weights = ws_are; statistics = statistics_are };
          }
