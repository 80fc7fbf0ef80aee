-- The files of one key while some are removed.
use Rattle.std.proofs.Common.{◌≡◌, ◌⊎◌, ℕ, Bool, true, false, List, Option, Some, None, if◌then◌else◌, refl, sym, ◌∙◌, ap, subst, inl, inr}
use Rattle.std.specs.Prelude.{is_some}
use Rattle.dfr_folder.specs.declared.name.Ending.{Ending}
use Rattle.dfr_folder.specs.declared.name.Ending.TheVariants as ending
use Rattle.dfr_folder.specs.Pairs.{Files, found_of, found, tidied_of, only, tidied, recovered_of, recovered, IsMending}
use Rattle.dfr_folder.proofs.Mends.{same_tidied}

pub same_ending : (e f : Ending) → (e ≡ f) ⊎ (e ≡ f → ⊥)
same_ending ending.Config ending.Config = inl refl
same_ending ending.Data ending.Data = inl refl
same_ending ending.ConfigPart ending.ConfigPart = inl refl
same_ending ending.DataPart ending.DataPart = inl refl
same_ending ending.Gone ending.Gone = inl refl
same_ending e f = inr (λ p. absurd (cc))

-- some files that S names are removed
abbrev pub IsThinned : (Ending → Bool) → Files → Files → Type 0
IsThinned S h f = (e : Ending) → (f e ≡ h e) ⊎ ((S e ≡ true) × (f e ≡ None))

pub thinner : (S : Ending → Bool) (h g f : Files) (end : Ending) → S end ≡ true → IsThinned S h g → f end ≡ None → ((e : Ending) → (e ≡ end → ⊥) → f e ≡ g e) → IsThinned S h f
thinner S h g f end may thin leaving same e = elim (same_ending e end) [
  | inl is ↦ subst (λ (x : Ending). (f x ≡ h x) ⊎ ((S x ≡ true) × (f x ≡ None))) (sym is) (inr (may, leaving))
  | inr differ ↦ elim (thin e) [ inl stays ↦ inl (same e differ ∙ stays) | inr left ↦ inr (left.0, same e differ ∙ left.1) ]
]

pub stays : (S : Ending → Bool) (h f : Files) (e : Ending) → S e ≡ false → IsThinned S h f → f e ≡ h e
stays S h f e not thin = elim (thin e) [ inl same ↦ same | inr removed ↦ absurd (cc (not, removed.0)) ]

pub thin_either : (S : Ending → Bool) (h f : Files) (e : Ending) → IsThinned S h f → (f e ≡ h e) ⊎ (f e ≡ None)
thin_either S h f e thin = elim (thin e) [ inl same ↦ inl same | inr removed ↦ inr removed.1 ]

-- the files that are being written
abbrev pub is_part : Ending → Bool
is_part ending.Config = false
is_part ending.Data = false
is_part ending.ConfigPart = true
is_part ending.DataPart = true
is_part ending.Gone = false

abbrev pub is_gone : Ending → Bool
is_gone ending.Config = false
is_gone ending.Data = false
is_gone ending.ConfigPart = false
is_gone ending.DataPart = false
is_gone ending.Gone = true

abbrev pub is_rest : Ending → Bool
is_rest ending.Config = false
is_rest ending.Data = true
is_rest ending.ConfigPart = false
is_rest ending.DataPart = false
is_rest ending.Gone = true

-- h without those
abbrev pub without : (Ending → Bool) → Files → Files
without S h e = if S e then None else h e

without_at : (b : Bool) (o : Option (List ℕ)) (v : Option (List ℕ)) → v ≡ (if b then None else o) → (v ≡ o) ⊎ ((b ≡ true) × (v ≡ None))
without_at true o v is = inr (refl, is)
without_at false o v is = inl is

pub thin_without : (S : Ending → Bool) (h f : Files) → ((e : Ending) → f e ≡ without S h e) → IsThinned S h f
thin_without S h f is e = without_at (S e) (h e) (f e) (is e)

second : Option (List ℕ × Option (List ℕ)) → Option (List ℕ)
second None = None
second (Some p) = p.1

parts_of : (cfg dat leaving cfg_part dat_part cp dp : Option (List ℕ)) → found_of cfg dat ≡ recovered_of cfg dat leaving cfg_part dat_part → (cp ≡ cfg_part) ⊎ (cp ≡ None)
    → (dp ≡ dat_part) ⊎ (dp ≡ None) → recovered_of cfg dat leaving cp dp ≡ found_of cfg dat
unfolding second
parts_of (Some x) (Some y) leaving cfg_part dat_part cp dp named p q = refl
parts_of (Some x) None leaving cfg_part dat_part cp dp named p q =
    let none : None ≡ dat_part = ap second named in
    ap (λ (o : Option (List ℕ)). Some (x, o)) (elim q [ inl same ↦ same ∙ sym none | inr removed ↦ removed ])
parts_of None dat (Some z) cfg_part dat_part cp dp named p q = refl
parts_of None None None cfg_part dat_part cp dp named p q = refl
parts_of None (Some y) None (Some x) dat_part cp dp named p q = absurd (cc)
parts_of None (Some y) None None dat_part cp dp named p q =
    let none : cp ≡ None = elim p [ inl same ↦ same | inr removed ↦ removed ] in
    ap (λ (o : Option (List ℕ)). recovered_of None (Some y) None o dp) none

-- while the files that were being written are removed
pub parts_mend : (h f : Files) → found h ≡ recovered h → IsThinned is_part h f → IsMending h f
parts_mend h f named thin =
    let config : f ending.Config ≡ h ending.Config = stays is_part h f ending.Config refl thin in
    let data_file : f ending.Data ≡ h ending.Data = stays is_part h f ending.Data refl thin in
    let leaving : f ending.Gone ≡ h ending.Gone = stays is_part h f ending.Gone refl thin in
    let made = parts_of (h ending.Config) (h ending.Data) (h ending.Gone) (h ending.ConfigPart) (h ending.DataPart) (f ending.ConfigPart) (f ending.DataPart) named
    (thin_either is_part h f ending.ConfigPart thin) (thin_either is_part h f ending.DataPart thin) in
    record {
      mended = rw (config, data_file, leaving) made ∙ named;
      shown = inl (rw (config, data_file) refl);
    }

there_of : (cfg dat leaving g : Option (List ℕ)) → is_some cfg ≡ true → recovered_of cfg dat g None None ≡ recovered_of cfg dat leaving None None
there_of None dat leaving g p = absurd (cc)
there_of (Some x) (Some y) leaving g p = refl
there_of (Some x) None leaving g p = refl

none_of : (cfg dat leaving : Option (List ℕ)) → is_some cfg ≡ false → recovered_of cfg dat leaving None None ≡ None
none_of (Some x) dat leaving p = absurd (cc)
none_of None dat (Some z) p = refl
none_of None (Some y) None p = refl
none_of None None None p = refl

no_found : (cfg dat : Option (List ℕ)) → is_some cfg ≡ false → found_of cfg dat ≡ None
no_found (Some x) dat p = absurd (cc)
no_found None dat p = refl

no_file : (cfg : Option (List ℕ)) → is_some cfg ≡ false → cfg ≡ None
no_file (Some x) p = absurd (cc)
no_file None p = refl

-- a configuration file that has its name stays, and its data file
pub gone_mends : (h f : Files) → is_some (h ending.Config) ≡ true → h ending.ConfigPart ≡ None → h ending.DataPart ≡ None → IsThinned is_gone h f → IsMending h f
gone_mends h f there no_cfg no_dat thin =
    let config : f ending.Config ≡ h ending.Config = stays is_gone h f ending.Config refl thin in
    let data_file : f ending.Data ≡ h ending.Data = stays is_gone h f ending.Data refl thin in
    let cfg_part : f ending.ConfigPart ≡ None = stays is_gone h f ending.ConfigPart refl thin ∙ no_cfg in
    let dat_part : f ending.DataPart ≡ None = stays is_gone h f ending.DataPart refl thin ∙ no_dat in
    record {
      mended = rw (config, data_file, cfg_part, dat_part, no_cfg, no_dat) (there_of (h ending.Config) (h ending.Data) (h ending.Gone) (f ending.Gone) there);
      shown = inl (rw (config, data_file) refl);
    }

-- without a configuration file nothing is found, and nothing made
pub rest_mends : (h f : Files) → is_some (h ending.Config) ≡ false → h ending.ConfigPart ≡ None → h ending.DataPart ≡ None → IsThinned is_rest h f → IsMending h f
rest_mends h f there no_cfg no_dat thin =
    let config : f ending.Config ≡ h ending.Config = stays is_rest h f ending.Config refl thin in
    let cfg_part : f ending.ConfigPart ≡ None = stays is_rest h f ending.ConfigPart refl thin ∙ no_cfg in
    let dat_part : f ending.DataPart ≡ None = stays is_rest h f ending.DataPart refl thin ∙ no_dat in
    record {
      mended = rw (config, cfg_part, dat_part, no_cfg, no_dat) (none_of (h ending.Config) (f ending.Data) (f ending.Gone) there ∙ sym (none_of (h ending.Config) (h ending.Data) (h ending.Gone) there));
      shown = inl (rw config (no_found (h ending.Config) (f ending.Data) there ∙ sym (no_found (h ending.Config) (h ending.Data) there)));
    }

-- without those that were being written
parts_same : (cfg dat leaving cfg_part dat_part : Option (List ℕ)) → found_of cfg dat ≡ recovered_of cfg dat leaving cfg_part dat_part
    → tidied_of cfg dat leaving None None ≡ tidied_of cfg dat leaving cfg_part dat_part
unfolding second
parts_same (Some x) (Some y) leaving cfg_part dat_part named = refl
parts_same (Some x) None leaving cfg_part dat_part named =
    let none : None ≡ dat_part = ap second named in
    ap (λ (o : Option (List ℕ)). (Some x, o)) none
parts_same None dat (Some z) cfg_part dat_part named = refl
parts_same None None None cfg_part dat_part named = refl
parts_same None (Some y) None (Some x) dat_part named = absurd (cc)
parts_same None (Some y) None None dat_part named = refl

pub parts_tidied : (h f : Files) → found h ≡ recovered h → ((e : Ending) → f e ≡ without is_part h e) → (e : Ending) → tidied f e ≡ tidied h e
parts_tidied h f named is e = same_tidied (without is_part h) f is e
    ∙ ap (λ (b : Option (List ℕ) × Option (List ℕ)). only b e) (parts_same (h ending.Config) (h ending.Data) (h ending.Gone) (h ending.ConfigPart) (h ending.DataPart) named)

there_same : (cfg dat leaving : Option (List ℕ)) → is_some cfg ≡ true → (cfg, dat) ≡ tidied_of cfg dat leaving None None
there_same None dat leaving p = absurd (cc)
there_same (Some x) (Some y) leaving p = refl
there_same (Some x) None leaving p = refl

gone_same : (cfg dat leaving : Option (List ℕ)) → is_some cfg ≡ false → is_some leaving ≡ true → (None, None) ≡ tidied_of cfg dat leaving None None
gone_same (Some x) dat leaving p q = absurd (cc)
gone_same None dat None p q = absurd (cc)
gone_same None dat (Some z) p q = refl

module _ (h : Files) (no_cfg : h ending.ConfigPart ≡ None) (no_dat : h ending.DataPart ≡ None) where
  tidied_there : (e : Ending) → only (tidied_of (h ending.Config) (h ending.Data) (h ending.Gone) None None) e ≡ tidied h e
  tidied_there e = rw (no_cfg, no_dat) refl

  gone_only : (e : Ending) → without is_gone h e ≡ only (h ending.Config, h ending.Data) e
  gone_only ending.Config = refl
  gone_only ending.Data = refl
  gone_only ending.ConfigPart = no_cfg
  gone_only ending.DataPart = no_dat
  gone_only ending.Gone = refl

  pub gone_clean : is_some (h ending.Config) ≡ true → (e : Ending) → without is_gone h e ≡ tidied h e
  gone_clean there e = gone_only e ∙ ap (λ (b : Option (List ℕ) × Option (List ℕ)). only b e) (there_same (h ending.Config) (h ending.Data) (h ending.Gone) there) ∙ tidied_there e

  rest_only : is_some (h ending.Config) ≡ false → (e : Ending) → without is_rest h e ≡ only (None, None) e
  rest_only there ending.Config = no_file (h ending.Config) there
  rest_only there ending.Data = refl
  rest_only there ending.ConfigPart = no_cfg
  rest_only there ending.DataPart = no_dat
  rest_only there ending.Gone = refl

  pub rest_clean : is_some (h ending.Config) ≡ false → is_some (h ending.Gone) ≡ true → (e : Ending) → without is_rest h e ≡ tidied h e
  rest_clean there leaving e =
      rest_only there e ∙ ap (λ (b : Option (List ℕ) × Option (List ℕ)). only b e) (gone_same (h ending.Config) (h ending.Data) (h ending.Gone) there leaving) ∙ tidied_there e
