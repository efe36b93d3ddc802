-- The first record of K/M, with one master key.
use Rattle.std.specs.Prelude.{ℕ, List, [], ◌∷◌, ◌++◌, codes, Some, None}
use Rattle.kdb_base.specs.Key.{Key}
use Rattle.kdb_base.specs.declared.keys.Salt.TheVariants.{Normal}
use Rattle.princ_record.specs.declared.princs.Princ.{Princ}
use Rattle.master_keys.specs.Wrapping.{wrapped}

-- the printed name of the principal whose keys are the master keys
unfoldable pub master_name : List ℕ → List ℕ
master_name realm = codes "K/M@" ++ realm

-- the printed name of the administrator of the machine
unfoldable pub admin_name : List ℕ → List ℕ
admin_name realm = codes "admin/local@" ++ realm

-- version 1 alone, active from these seconds on and wrapped under itself
unfoldable pub first_record : List ℕ → Key → ℕ → List ℕ → Princ
first_record realm key secs confounder = record {
  name = master_name realm;
  attributes = 0;
  max_life = 0;
  max_renew = 0;
  expire = 0;
  pw_expire = 0;
  pw_changed = Some secs;
  modified = secs;
  modifier = admin_name realm;
  mkvno = 1;
  keys = record { kvno = 1; etype = key.etype; salt = Normal; wrapped = wrapped key key confounder } ∷ [];
  policy = None;
  old = [];
  chain = Some (record { activations = record { version = 1; secs = secs } ∷ []; aux = [] });
  strings = [];
}
