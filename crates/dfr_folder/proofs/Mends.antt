-- What recovery makes of the files of one key, before and after each of its steps.
use Rattle.std.proofs.Common.{◌≡◌, ℕ, true, false, List, Option, Some, None, refl, ◌∙◌, ap, inl, inr}
use Rattle.std.specs.Prelude.{is_some}
use Rattle.dfr_folder.specs.declared.name.Ending.{Ending}
use Rattle.dfr_folder.specs.declared.name.Ending.TheVariants as ending
use Rattle.dfr_folder.specs.Pairs.{Files, found_of, found, tidied_of, only, tidied, recovered_of, recovered, IsMending}

pub same_recovered : (h f : Files) → ((e : Ending) → f e ≡ h e) → recovered f ≡ recovered h
same_recovered h f same = rw (same ending.Config, same ending.Data, same ending.Gone, same ending.ConfigPart, same ending.DataPart) refl

pub same_found : (h f : Files) → ((e : Ending) → f e ≡ h e) → found f ≡ found h
same_found h f same = rw (same ending.Config, same ending.Data) refl

pub same_mends : (h f : Files) → ((e : Ending) → f e ≡ h e) → IsMending h f
same_mends h f same = record { mended = same_recovered h f same; shown = inl (same_found h f same) }

pub mends_on : (a b c : Files) → IsMending a b → IsMending b c → IsMending a c
mends_on a b c first second = record {
  mended = second.mended ∙ first.mended;
  shown = elim second.shown [
    | inl same ↦ elim first.shown [ inl as_before ↦ inl (same ∙ as_before) | inr as_mended ↦ inr (same ∙ as_mended) ]
    | inr mended ↦ inr (mended ∙ first.mended)
  ];
}

-- the data file gets its name
data_of : (cfg dat leaving cfg_part dat_part : Option (List ℕ)) → is_some cfg ≡ true → is_some dat ≡ false → is_some dat_part ≡ true
    → (recovered_of cfg dat_part leaving cfg_part None ≡ recovered_of cfg dat leaving cfg_part dat_part) × (found_of cfg dat_part ≡ recovered_of cfg dat leaving cfg_part dat_part)
data_of None dat leaving cfg_part dat_part p q r = absurd (cc)
data_of (Some x) (Some y) leaving cfg_part dat_part p q r = absurd (cc)
data_of (Some x) None leaving cfg_part None p q r = absurd (cc)
data_of (Some x) None leaving cfg_part (Some y) p q r = (refl, refl)

abbrev pub after_data : Files → Files
after_data h ending.Config = h ending.Config
after_data h ending.Data = h ending.DataPart
after_data h ending.ConfigPart = h ending.ConfigPart
after_data h ending.DataPart = None
after_data h ending.Gone = h ending.Gone

pub data_mends : (h f : Files) → is_some (h ending.Config) ≡ true → is_some (h ending.Data) ≡ false → is_some (h ending.DataPart) ≡ true → ((e : Ending) → f e ≡ after_data h e)
    → (recovered f ≡ recovered h) × (found f ≡ recovered h)
data_mends h f p q r is =
    let both = data_of (h ending.Config) (h ending.Data) (h ending.Gone) (h ending.ConfigPart) (h ending.DataPart) p q r in
    (same_recovered (after_data h) f is ∙ both.0, same_found (after_data h) f is ∙ both.1)

-- the configuration file gets its name
config_of : (cfg dat leaving cfg_part dat_part : Option (List ℕ)) → is_some cfg ≡ false → is_some dat ≡ true → is_some leaving ≡ false → is_some cfg_part ≡ true
    → (recovered_of cfg_part dat leaving None dat_part ≡ recovered_of cfg dat leaving cfg_part dat_part) × (found_of cfg_part dat ≡ recovered_of cfg dat leaving cfg_part dat_part)
config_of (Some x) dat leaving cfg_part dat_part p q r s = absurd (cc)
config_of None None leaving cfg_part dat_part p q r s = absurd (cc)
config_of None (Some y) (Some z) cfg_part dat_part p q r s = absurd (cc)
config_of None (Some y) None None dat_part p q r s = absurd (cc)
config_of None (Some y) None (Some x) dat_part p q r s = (refl, refl)

abbrev pub after_config : Files → Files
after_config h ending.Config = h ending.ConfigPart
after_config h ending.Data = h ending.Data
after_config h ending.ConfigPart = None
after_config h ending.DataPart = h ending.DataPart
after_config h ending.Gone = h ending.Gone

pub config_mends : (h f : Files) → is_some (h ending.Config) ≡ false → is_some (h ending.Data) ≡ true → is_some (h ending.Gone) ≡ false → is_some (h ending.ConfigPart) ≡ true
    → ((e : Ending) → f e ≡ after_config h e) → (recovered f ≡ recovered h) × (found f ≡ recovered h)
config_mends h f p q r s is =
    let both = config_of (h ending.Config) (h ending.Data) (h ending.Gone) (h ending.ConfigPart) (h ending.DataPart) p q r s in
    (same_recovered (after_config h) f is ∙ both.0, same_found (after_config h) f is ∙ both.1)

-- neither is to get its name
nothing_of : (cfg dat leaving cfg_part dat_part : Option (List ℕ)) → (is_some cfg ≡ true → is_some dat ≡ false → is_some dat_part ≡ false)
    → (is_some cfg ≡ false → is_some dat ≡ true → is_some leaving ≡ false → is_some cfg_part ≡ false) → found_of cfg dat ≡ recovered_of cfg dat leaving cfg_part dat_part
nothing_of (Some x) (Some y) leaving cfg_part dat_part p q = refl
nothing_of (Some x) None leaving cfg_part None p q = refl
nothing_of (Some x) None leaving cfg_part (Some y) p q = let no = p refl refl in absurd (cc)
nothing_of None dat (Some z) cfg_part dat_part p q = refl
nothing_of None None None cfg_part dat_part p q = refl
nothing_of None (Some y) None None dat_part p q = refl
nothing_of None (Some y) None (Some x) dat_part p q = let no = q refl refl refl in absurd (cc)

pub nothing_mends : (h : Files) → (is_some (h ending.Config) ≡ true → is_some (h ending.Data) ≡ false → is_some (h ending.DataPart) ≡ false)
    → (is_some (h ending.Config) ≡ false → is_some (h ending.Data) ≡ true → is_some (h ending.Gone) ≡ false → is_some (h ending.ConfigPart) ≡ false) → found h ≡ recovered h
nothing_mends h p q = nothing_of (h ending.Config) (h ending.Data) (h ending.Gone) (h ending.ConfigPart) (h ending.DataPart) p q

-- there is no leftover
clean_of : (cfg dat leaving cfg_part dat_part : Option (List ℕ)) → is_some cfg_part ≡ false → is_some dat_part ≡ false → is_some leaving ≡ false
    → (cfg ≡ (tidied_of cfg dat leaving cfg_part dat_part).0) × (dat ≡ (tidied_of cfg dat leaving cfg_part dat_part).1) × (cfg_part ≡ None) × (dat_part ≡ None) × (leaving ≡ None)
clean_of cfg dat leaving (Some x) dat_part p q r = absurd (cc)
clean_of cfg dat leaving None (Some y) p q r = absurd (cc)
clean_of cfg dat (Some z) None None p q r = absurd (cc)
clean_of (Some x) (Some y) None None None p q r = (refl, refl, refl, refl, refl)
clean_of (Some x) None None None None p q r = (refl, refl, refl, refl, refl)
clean_of None None None None None p q r = (refl, refl, refl, refl, refl)
clean_of None (Some y) None None None p q r = (refl, refl, refl, refl, refl)

pub clean : (h : Files) → is_some (h ending.ConfigPart) ≡ false → is_some (h ending.DataPart) ≡ false → is_some (h ending.Gone) ≡ false → (e : Ending) → h e ≡ tidied h e
clean h p q r ending.Config = (clean_of (h ending.Config) (h ending.Data) (h ending.Gone) (h ending.ConfigPart) (h ending.DataPart) p q r).0
clean h p q r ending.Data = (clean_of (h ending.Config) (h ending.Data) (h ending.Gone) (h ending.ConfigPart) (h ending.DataPart) p q r).1
clean h p q r ending.ConfigPart = (clean_of (h ending.Config) (h ending.Data) (h ending.Gone) (h ending.ConfigPart) (h ending.DataPart) p q r).2
clean h p q r ending.DataPart = (clean_of (h ending.Config) (h ending.Data) (h ending.Gone) (h ending.ConfigPart) (h ending.DataPart) p q r).3
clean h p q r ending.Gone = (clean_of (h ending.Config) (h ending.Data) (h ending.Gone) (h ending.ConfigPart) (h ending.DataPart) p q r).4

-- what recovery leaves, of files that are the same
pub same_tidied : (h f : Files) → ((e : Ending) → f e ≡ h e) → (e : Ending) → tidied f e ≡ tidied h e
same_tidied h f same e = rw (same ending.Config, same ending.Data, same ending.Gone, same ending.ConfigPart, same ending.DataPart) refl

data_same : (cfg dat leaving cfg_part dat_part : Option (List ℕ)) → is_some cfg ≡ true → is_some dat ≡ false → is_some dat_part ≡ true
    → tidied_of cfg dat_part leaving cfg_part None ≡ tidied_of cfg dat leaving cfg_part dat_part
data_same None dat leaving cfg_part dat_part p q r = absurd (cc)
data_same (Some x) (Some y) leaving cfg_part dat_part p q r = absurd (cc)
data_same (Some x) None leaving cfg_part None p q r = absurd (cc)
data_same (Some x) None leaving cfg_part (Some y) p q r = refl

pub data_tidied : (h f : Files) → is_some (h ending.Config) ≡ true → is_some (h ending.Data) ≡ false → is_some (h ending.DataPart) ≡ true → ((e : Ending) → f e ≡ after_data h e)
    → (e : Ending) → tidied f e ≡ tidied h e
data_tidied h f p q r is e = same_tidied (after_data h) f is e
    ∙ ap (λ (b : Option (List ℕ) × Option (List ℕ)). only b e) (data_same (h ending.Config) (h ending.Data) (h ending.Gone) (h ending.ConfigPart) (h ending.DataPart) p q r)

config_same : (cfg dat leaving cfg_part dat_part : Option (List ℕ)) → is_some cfg ≡ false → is_some dat ≡ true → is_some leaving ≡ false → is_some cfg_part ≡ true
    → tidied_of cfg_part dat leaving None dat_part ≡ tidied_of cfg dat leaving cfg_part dat_part
config_same (Some x) dat leaving cfg_part dat_part p q r s = absurd (cc)
config_same None None leaving cfg_part dat_part p q r s = absurd (cc)
config_same None (Some y) (Some z) cfg_part dat_part p q r s = absurd (cc)
config_same None (Some y) None None dat_part p q r s = absurd (cc)
config_same None (Some y) None (Some x) dat_part p q r s = refl

pub config_tidied : (h f : Files) → is_some (h ending.Config) ≡ false → is_some (h ending.Data) ≡ true → is_some (h ending.Gone) ≡ false → is_some (h ending.ConfigPart) ≡ true
    → ((e : Ending) → f e ≡ after_config h e) → (e : Ending) → tidied f e ≡ tidied h e
config_tidied h f p q r s is e = same_tidied (after_config h) f is e
    ∙ ap (λ (b : Option (List ℕ) × Option (List ℕ)). only b e) (config_same (h ending.Config) (h ending.Data) (h ending.Gone) (h ending.ConfigPart) (h ending.DataPart) p q r s)
