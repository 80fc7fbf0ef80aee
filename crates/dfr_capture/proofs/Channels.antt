-- The channels one after the other.
use Rattle.std.proofs.Common.{◌≡◌, ℕ, ◌+◌, ◌<◌, ◌≤◌, List, [], ◌++◌, Option, length, drop, get_or, refl, sym, ap, ◌∙◌, append_assoc, append-nil}
use Rattle.std.proofs.lemmas.List.{drop_more, drop_all}
use Rattle.dfr_bay.specs.declared.channel.Channel.{Channel}
use Rattle.dfr_capture.specs.declared.feed.LostReading.{LostReading}
use Rattle.dfr_capture.specs.Units.{UnitParts}
use Rattle.dfr_capture.specs.Rows.{comma, reading_text, reading_in, readings_text, lost_of, lost_readings}

pub text_more : (scan : List (Option UnitParts)) (cs : List Channel) (i : ℕ) (d : Channel) (before after : List ℕ) → i < length cs
    → after ≡ before ++ (comma i ++ reading_text (reading_in scan (get_or cs i d)))
    → after ++ readings_text scan (i + 1) (drop (i + 1) cs) ≡ before ++ readings_text scan i (drop i cs)
unfolding readings_text
text_more scan cs i d before after lt put = rw (put, drop_more cs i d lt) (simp append_assoc)

pub text_end : (scan : List (Option UnitParts)) (cs : List Channel) (i : ℕ) (out : List ℕ) → length cs ≤ i → out ++ readings_text scan i (drop i cs) ≡ out
unfolding readings_text
text_end scan cs i out le = rw (drop_all i cs le, append-nil) refl

pub lost_more : (scan : List (Option UnitParts)) (cs : List Channel) (i : ℕ) (d : Channel) (before after : List LostReading) → i < length cs
    → after ≡ before ++ lost_of i (reading_in scan (get_or cs i d))
    → after ++ lost_readings scan (i + 1) (drop (i + 1) cs) ≡ before ++ lost_readings scan i (drop i cs)
unfolding lost_readings
lost_more scan cs i d before after lt put = rw (put, drop_more cs i d lt) (simp append_assoc)

pub lost_end : (scan : List (Option UnitParts)) (cs : List Channel) (i : ℕ) (out : List LostReading) → length cs ≤ i → out ++ lost_readings scan i (drop i cs) ≡ out
unfolding lost_readings
lost_end scan cs i out le = rw (drop_all i cs le, append-nil) refl
