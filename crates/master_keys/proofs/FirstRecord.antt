-- The first record is a chain, and it has a spelling.
use Rattle.std.proofs.Common.{◌≡◌, ℕ, ◌^◌, ◌<◌, List, [], ◌∷◌, true, refl, sym, arith}
use Rattle.std.proofs.lemmas.List.Elements.{All-nil, All-cons}
use Rattle.kdb_base.specs.Key.{Key}
use Rattle.kdb_base.specs.declared.keys.Salt.TheVariants.{Normal}
use Rattle.tagged_data.specs.Numbers.{IsVersion}
use Rattle.tagged_data.specs.StringLaws.{no_strings}
use Rattle.tagged_data.specs.Versions.{IsActivation, IsAuxKey, length-activations_text, length-aux_keys_text}
use Rattle.princ_record.specs.Facts.{IsChain as IsPart}
use Rattle.princ_keys.specs.Keys.{IsKey, are_falling, are_ordered, begins_at}
use Rattle.princ_record.specs.Princs.{are_attributes, IsPrinc}
use Rattle.princ_name.specs.Printed.{is_master, IsPrinted}
use Rattle.princ_keys.specs.Remembered.{IsOldSet}
use Rattle.master_keys.specs.Chain.{IsChain}
use Rattle.master_keys.specs.First.{master_name, admin_name, first_record}
use Rattle.master_keys.specs.Lengths.{short_blob}
use Rattle.master_keys.specs.Wrapping.{Unwraps, wrapped}
use Rattle.master_keys.proofs.Rising.{rising_none, rising_one}

version_one : IsVersion 1
version_one = record { some = omega arith; short = omega arith }

module _ (realm : List ℕ) (key : Key) (secs : ℕ) (confounder : List ℕ)
    (u : Unwraps key key.etype (wrapped key key confounder) key) where
  pub first_chain : IsChain (first_record realm key secs confounder) (record { version = 1; key = key } ∷ [])
  unfolding first_record
  first_chain = record {
    newest = key;
    under = record {
      older = [];
      masters_are = refl;
      rising = rising_one 1;
      keys = (record { version = refl; unwraps = u }, tt);
      part = record { activations = record { version = 1; secs = secs } ∷ []; aux = [] };
      part_is = refl;
      aux = tt;
    };
  }

  master_is : is_master (master_name realm) ≡ true
  unfolding is_master master_name
  master_is = refl

  part_fits : secs < 2 ^ 32 → IsPart (record { activations = record { version = 1; secs = secs } ∷ []; aux = [] })
  part_fits lt = record {
    activations = record {
      each = All-cons IsActivation (record { version = 1; secs = secs }) []
          (record { version = version_one; secs = lt }) (All-nil IsActivation);
      rising = rising_one 1;
    };
    activations_short = omega (arith, length-activations_text (record { version = 1; secs = secs } ∷ []));
    aux = record { each = All-nil IsAuxKey; rising = rising_none [] refl };
    aux_short = omega (arith, length-aux_keys_text []);
  }

  pub first_spelled : IsPrinted (master_name realm) → IsPrinted (admin_name realm) → secs < 2 ^ 32
      → IsPrinc (first_record realm key secs confounder)
  unfolding first_record are_attributes are_ordered begins_at are_falling
  first_spelled master admin lt = record {
    name = master;
    attributes = refl;
    attributes_short = omega arith;
    lives = record { max_life = omega arith; max_renew = omega arith; expire = omega arith; pw_expire = omega arith };
    facts = record {
      pw_changed = lt;
      modified = lt;
      modifier = admin;
      mkvno = version_one;
      chain_there = sym master_is;
      chain = part_fits lt;
      strings = no_strings;
      no_strings = λ _. refl;
    };
    keys = record {
      few = omega arith;
      each = All-cons IsKey
          (record { kvno = 1; etype = key.etype; salt = Normal; wrapped = wrapped key key confounder }) []
          (record {
            from_one = omega arith;
            kvno = omega arith;
            salt = record { short = omega arith };
            wrapped = short_blob u;
          })
          (All-nil IsKey);
      ordered = refl;
    };
    masters = λ _. record { newest = refl; falling = refl };
    policy = tt;
    old = record { few = omega arith; each = All-nil IsOldSet };
  }
