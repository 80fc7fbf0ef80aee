-- Bytes that come after others.
use Rattle.std.proofs.Common.{ℕ, List, [], ◌++◌, Option, Some, None, refl, sym, ap, ◌∙◌, append_assoc}
use Rattle.std.specs.Io.KnownBytes.{Consumes}
use Rattle.std.proofs.lemmas.List.{append-nil}
use Rattle.dfr_station.specs.Input.{Grows}

nothing_came : (known : Option (List ℕ)) → Consumes known known []
nothing_came None = tt
nothing_came (Some bytes) = refl

came_after : (x y z : Option (List ℕ)) (a b : List ℕ) → Consumes x y a → Consumes y z b → Consumes x z (a ++ b)
came_after None y z a b first then = tt
came_after (Some x) None z a b first then = absurd first
came_after (Some x) (Some y) None a b first then = absurd then
came_after (Some x) (Some y) (Some z) a b first then = first ∙ ap (λ l. a ++ l) then ∙ sym (append_assoc a b z)

pub grows_none : {I : Type 0} (left : I → Option (List ℕ)) (waiting : List ℕ) (input : I) → Grows left waiting input waiting input
grows_none left waiting input = record { bytes = []; put = sym (append-nil waiting); came = nothing_came (left input) }

pub grows_on : {I : Type 0} {left : I → Option (List ℕ)} {w g h : List ℕ} {i k m : I} → Grows left w i g k → Grows left g k h m → Grows left w i h m
grows_on {I} {left} {w} {g} {h} {i} {k} {m} a b = record {
  bytes = a.bytes ++ b.bytes;
  put = b.put ∙ ap (λ l. l ++ b.bytes) a.put ∙ append_assoc w a.bytes b.bytes;
  came = came_after (left i) (left k) (left m) a.bytes b.bytes a.came b.came;
}
