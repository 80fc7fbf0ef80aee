-- What the input hands out, read by read.
use Rattle.std.specs.Prelude.{◌≡◌, ℕ, ◌<◌, List, [], ◌∷◌, ◌++◌, length, Option, Some, None, IfSome, ⊤}
use Rattle.dfr_station.specs.Lines.{ArrivalParts, parts_of}
use Rattle.dfr_station.specs.Input.{ComesOver}
use Rattle.dfr_station.specs.declared.intake.arrivals.Arrivals.{Arrivals}
use Rattle.dfr_station.specs.declared.intake.arrivals.Ending.{Ending}
use Rattle.dfr_station.specs.declared.intake.arrivals.Ending.TheVariants as ending
use Rattle.dfr_station.specs.declared.intake.arrivals.Next.{Next}
use Rattle.dfr_station.specs.declared.intake.arrivals.Next.TheVariants as next
use Rattle.dfr_station.specs.declared.intake.arrivals.Stop.{Stop}
use Rattle.dfr_station.specs.declared.intake.arrivals.Stop.TheVariants as stop

-- the bytes that are to be read may be these: none after the input's end; else all that it has left, or any where that isn't known
abbrev pub MayBeLeft : Option Stop → Option (List ℕ) → List ℕ → Type 0
MayBeLeft None left rest = IfSome left (λ bytes. rest ≡ bytes)
MayBeLeft (Some stop.Broken) left rest = IfSome left (λ bytes. rest ≡ bytes)
MayBeLeft (Some stop.End) left rest = rest ≡ []

-- these come from there on, up to the input's end: those of the bytes that wait and of the bytes that are to be read
abbrev pub ComesNext : {I A : Type 0} → (I → Option (List ℕ)) → Arrivals I A → List ArrivalParts → Type 0
ComesNext left s xs = (rest : List ℕ) × MayBeLeft s.ending (left s.input) rest × ComesOver s.cutter rest xs

-- the arrivals that were given from one state to another come before whatever comes from then on
pub record CameFirst {I A : Type 0} (left : I → Option (List ℕ)) (s : Arrivals I A) (given : List ArrivalParts) (t : Arrivals I A) : Type 0 where
  pub before : (xs : List ArrivalParts) → ComesNext left t xs → ComesNext left s (given ++ xs)

-- all that was read was handed out, and there is room for more
pub record IsDrained {I A : Type 0} (left : I → Option (List ℕ)) (s t : Arrivals I A) : Type 0 where
  pub room : length t.cutter.buffer < 65_536
  pub going : t.ending ≡ None
  pub same : CameFirst left s [] t

-- how many bytes of a frame wait at the end
abbrev pub EndsWith : Ending → List ℕ → Type 0
EndsWith ending.Whole waiting = waiting ≡ []
EndsWith (ending.Cut count) waiting = (0 < count) × (length waiting ≡ count)
EndsWith ending.Broken waiting = ⊥

-- What was handed out came next; a gap is nothing that came. At its end nothing comes any more; what an input gave that can't be read to its end came first.
abbrev pub HandsNext : {I A : Type 0} → (I → Option (List ℕ)) → Arrivals I A → Next A → Arrivals I A → Type 0
HandsNext left s (next.Arrival a) t = CameFirst left s (parts_of a ∷ []) t
HandsNext left s next.Gap t = CameFirst left s [] t
HandsNext left s next.Read t = CameFirst left s [] t
HandsNext left s next.Drained t = CameFirst left s [] t
HandsNext left s (next.End ending.Broken) t = CameFirst left s [] t
HandsNext left s (next.End ending.Whole) t = ComesNext left s [] × EndsWith ending.Whole t.cutter.buffer
HandsNext left s (next.End (ending.Cut count)) t = ComesNext left s [] × EndsWith (ending.Cut count) t.cutter.buffer

-- what came is handed out, and bytes are read, only once no lost scan of a gap is left to hand out
abbrev pub ReadsAfterGap : {I A : Type 0} → Next A → Arrivals I A → Type 0
ReadsAfterGap (next.Arrival a) t = t.gap ≡ 0
ReadsAfterGap next.Gap t = ⊤
ReadsAfterGap next.Read t = t.gap ≡ 0
ReadsAfterGap next.Drained t = ⊤
ReadsAfterGap (next.End ending) t = ⊤
