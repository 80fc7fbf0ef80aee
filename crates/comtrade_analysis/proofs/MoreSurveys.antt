-- Surveys with one row more.
use Rattle.std.proofs.Common.{◌≡◌, ℕ, ◌+◌, ◌<◌, ℤ, List, [], ◌∷◌, ◌++◌, length, replicate, Option, Some, None, sym, ap, ◌∙◌, subst, arith}
use Rattle.std.proofs.lemmas.List.{length_push, length-replicate, get_or-replicate}
use Rattle.comtrade_format.specs.Parts.{RowParts}
use Rattle.comtrade_analysis.specs.Readings.{sample_at}
use Rattle.comtrade_analysis.specs.Extremes.{AreExtremes}
use Rattle.comtrade_analysis.specs.Sums.{present}
use Rattle.comtrade_analysis.specs.Surveys.{IsSurvey, AreSurveys}
use Rattle.comtrade_analysis.specs.declared.extremes.Extremes.{Extremes}
use Rattle.comtrade_analysis.specs.declared.surveys.Survey.{Survey}
use Rattle.comtrade_analysis.proofs.Ranges.{some_more, none_more}

module _ (rows : List RowParts) (channel n : ℕ) where
  pub with_sample : (x : ℤ) → sample_at rows channel n ≡ Some x → length (present rows channel 0 (n + 1)) ≡ length (present rows channel 0 n) + 1
  with_sample x is =
      let step : present rows channel 0 (n + 1) ≡ present rows channel 0 n ++ x ∷ [] = some_more (sample_at rows channel) 0 n n x (omega arith) is in
      ap (λ (xs : List ℤ). length xs) step ∙ length_push (present rows channel 0 n) x

  pub without_sample : sample_at rows channel n ≡ None → length (present rows channel 0 (n + 1)) ≡ length (present rows channel 0 n)
  without_sample is =
      let step : present rows channel 0 (n + 1) ≡ present rows channel 0 n = none_more (sample_at rows channel) 0 n n (omega arith) is in
      ap (λ (xs : List ℤ). length xs) step

  -- a row more, with a sample or without
  pub survey_with : (x : ℤ) (old new : Survey) → IsSurvey rows channel n old → sample_at rows channel n ≡ Some x
      → AreExtremes rows channel (n + 1) new.extremes → new.missing ≡ old.missing → IsSurvey rows channel (n + 1) new
  survey_with x old new h is extremes same = record {
    extremes = extremes;
    missing = let more = with_sample x is in let all : length (present rows channel 0 n) + old.missing ≡ n = h.missing in omega (arith, more, same);
  }

  pub survey_without : (old new : Survey) → IsSurvey rows channel n old → sample_at rows channel n ≡ None
      → AreExtremes rows channel (n + 1) new.extremes → new.missing ≡ old.missing + 1 → IsSurvey rows channel (n + 1) new
  survey_without old new h is extremes more = record {
    extremes = extremes;
    missing = let same = without_sample is in let all : length (present rows channel 0 n) + old.missing ≡ n = h.missing in omega (arith, same, more);
  }

-- of no row
pub survey_none : (rows : List RowParts) (channel : ℕ) (s : Survey) → s.extremes ≡ None → s.missing ≡ 0 → IsSurvey rows channel 0 s
survey_none rows channel s extremes missing = record {
  extremes = subst (λ (e : Option Extremes). AreExtremes rows channel 0 e) (sym extremes) (λ k few. absurd (omega arith));
  missing = omega (arith, missing);
}

pub surveys_none : (rows : List RowParts) (channels : ℕ) (s : Survey) → s.extremes ≡ None → s.missing ≡ 0 → AreSurveys rows 0 (replicate channels s)
surveys_none rows channels s extremes missing = λ channel d lt.
    let within : channel < channels = omega (arith, length-replicate channels s) in
    subst (λ (v : Survey). IsSurvey rows channel 0 v) (sym (get_or-replicate channels channel s d within)) (survey_none rows channel s extremes missing)
