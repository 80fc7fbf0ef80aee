-- Bytes cut at their first line feed.
use Rattle.std.proofs.Common.{◌≡◌, ℕ, ◌+◌, ◌<◌, true, false, List, ◌∷◌, ◌++◌, length, slice_index, slice_index_or, take, drop, Some, sym, ap, ◌∙◌, arith, ⊎_elim}
use Rattle.std.proofs.lemmas.Bool.{cases_Bool, eqb-true}
use Rattle.std.proofs.lemmas.List.{take-append-drop, drop_more, get_or_default, get_or-take, length-take-le}
use Rattle.memchr.specs.Find.{IsFirstByte, is_byte}
use Rattle.comtrade_values.specs.Lines.{without_cr}
use Rattle.dfr_station.specs.Lines.{is_feed, HasNoFeed, IsFirstLine}

fails_at : (bytes : List ℕ) (k d : ℕ) → k < length bytes → ¬ (is_byte 10 (slice_index bytes k) ≡ true) → is_feed (slice_index_or bytes k d) ≡ false
fails_at bytes k d l none = rw (get_or_default bytes k d 0 l) (⊎_elim (λ t. absurd (none t)) (λ f. f) (cases_Bool _))

none_before : (bytes : List ℕ) (at : ℕ) → IsFirstByte (is_byte 10) bytes (Some at) → HasNoFeed (take at bytes)
none_before bytes at found = λ k d l.
    let within : k < at = omega (arith, length-take-le at bytes (omega (arith, found.0.high))) in
    rw (get_or-take at bytes k d within) (fails_at bytes k d (omega (arith, found.0.high)) (found.0.before k (omega arith) within))

-- the line before the first line feed
pub first_line_is : (bytes line : List ℕ) (at : ℕ) → IsFirstByte (is_byte 10) bytes (Some at) → line ≡ without_cr (take at bytes) → IsFirstLine bytes line (at + 1)
first_line_is bytes line at found text =
    let high : at < length bytes = found.0.high in
    let feed : slice_index bytes at ≡ 10 = eqb-true (slice_index bytes at) 10 found.1 in
    record {
      piece = take at bytes;
      behind = drop (at + 1) bytes;
      cut = sym (take-append-drop at bytes) ∙ ap (λ xs. take at bytes ++ xs) (drop_more bytes at 0 high ∙ ap (λ b. b ∷ drop (at + 1) bytes) feed);
      first = none_before bytes at found;
      text = text;
      counted = omega (arith, length-take-le at bytes (omega (arith, high)));
    }
