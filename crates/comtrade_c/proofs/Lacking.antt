-- What tables of another length than those of a head lack.
use Rattle.std.proofs.Common.{◌≡◌, ◌≢◌, ◌⊎◌, ⊎_elim, inl, inr, ℕ, List, length, ap, sym, ◌∙◌}
use Rattle.std.proofs.lemmas.Slice.Zip.{AllZip-long}
use Rattle.comtrade_format.specs.Parts.{HeadParts}
use Rattle.comtrade_c.specs.declared.channels.Analog.{Analog}
use Rattle.comtrade_c.specs.declared.channels.RateEnd.{RateEnd}
use Rattle.comtrade_c.specs.Channels.{IsAnalog, IsRate, IsTold, LacksRoom, normal_in, lengths_in, text_in}

other : (n k m : ℕ) → k ≡ m → n ≢ k → n ≢ m
other n k m same differ e = differ (e ∙ sym same)

pub lacks :
    (h : HeadParts) (a a' : List Analog) (n n' : List ℕ) (r r' : List RateEnd) (l l' t t' : List ℕ) → IsTold h a' n' r' l' t'
    → (length a ≢ length a') ⊎ (length n ≢ length n') ⊎ (length r ≢ length r') ⊎ (length l ≢ length l') ⊎ (length t ≢ length t')
    → LacksRoom h a n r l t
lacks h a a' n n' r r' l l' t t' told is =
    ⊎_elim (λ x. inl (other (length a) (length a') (length h.analog) (AllZip-long IsAnalog h.analog a' told.analog_are) x))
    (⊎_elim (λ x. inr (inl (other (length n) (length n') (length (normal_in h)) (ap length told.normal_are) x)))
    (⊎_elim (λ x. inr (inr (inl (other (length r) (length r') (length h.rates) (AllZip-long IsRate h.rates r' told.rates_are) x))))
    (⊎_elim (λ x. inr (inr (inr (inl (other (length l) (length l') (length (lengths_in h)) (ap length told.lengths_are) x)))))
    (λ x. inr (inr (inr (inr (other (length t) (length t') (length (text_in h)) (ap length told.text_are) x)))))))) is
