-- Writing some bytes after others.
use Rattle.std.proofs.Common.{◌≢◌, ◌<◌, ℕ, List, [], ◌++◌, Option, take, drop, length, length-drop, ap, arith}
use Rattle.std.proofs.KnownBytes.{Appends-nil, Appends-trans}
use Rattle.std.specs.Io.KnownBytes.{Appends}
use Rattle.std.proofs.lemmas.List.{take-append-drop}
use Rattle.dfr_program.specs.Writing.{Grows, Cut}

pub grows_none : (a : Option (List ℕ)) → Grows a a
grows_none a = record { text = []; appends = Appends-nil a }

pub grows_by : (a b : Option (List ℕ)) (x : List ℕ) → Appends a b x → Grows a b
grows_by a b x h = record { text = x; appends = h }

pub grows_on : (a b c : Option (List ℕ)) → Grows a b → Grows b c → Grows a c
grows_on a b c g h = record { text = g.text ++ h.text; appends = Appends-trans a b c g.text h.text g.appends h.appends }

dropped_some : (n : ℕ) (t : List ℕ) → n < length t → drop n t ≢ []
dropped_some n t more e = omega (arith, more, ap length e, length-drop n t)

-- some first bytes of a text, but not all
pub cut_some : (a b : Option (List ℕ)) (n : ℕ) (t : List ℕ) → n < length t → Appends a b (take n t) → Cut a b t
cut_some a b n t more h = record {
  rest = drop n t;
  missing = dropped_some n t more;
  wrote = record { front = take n t; appends = h; whole = take-append-drop n t };
}

pub ruleset growing = (grows_none, grows_by, grows_on, cut_some)
