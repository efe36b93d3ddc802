-- What commands make of the fields of a principal. All of it is over records without keys, so that it is said once of
-- records as they are kept and of plain ones.
use Rattle.std.specs.Prelude.{ℕ, ◌+◌, ◌==◌, Bool, List, [], Option, Some, None, min, unwrap_or, bit_and, if◌then◌else◌}
use Rattle.std.specs.Int.{bit_not}
use Rattle.std.specs.Int.Width.{w32}
use Rattle.acl_text.specs.Restricting.{restricted}
use Rattle.acl_text.specs.declared.limits.Limits.{Limits}
use Rattle.acl_text.specs.declared.limits.Wanted.{Wanted}
use Rattle.kadm_commands.specs.declared.options.PrincOptions.{PrincOptions}
use Rattle.kadm_commands.specs.declared.policies.PolicyChoice.{PolicyChoice}
use Rattle.kadm_commands.specs.declared.policies.PolicyChoice.TheVariants.{Named, Cleared}
use Rattle.kadm_values.specs.Flags.{with_flags}
use Rattle.princ_record.specs.declared.princs.Princ.{Princ}

-- who changes a record, by the printed name, and in which second
pub record By : Type 0 where
  pub client : List ℕ
  pub secs : ℕ

abbrev pub marked : By → Princ → Princ
marked by h = record h { modified = by.secs; modifier = by.client }

-- ---- options

-- the options, over a record
unfoldable pub with_options : PrincOptions → Princ → Princ
with_options o h = record h {
  attributes = with_flags h.attributes o.flags;
  max_life = unwrap_or o.max_life h.max_life;
  max_renew = unwrap_or o.max_renew h.max_renew;
  expire = unwrap_or o.expire h.expire;
  pw_expire = unwrap_or o.pw_expire h.pw_expire;
}

-- the policy of a line's options, or what stands without one
abbrev pub chosen : Option PolicyChoice → Option (List ℕ) → Option (List ℕ)
chosen None standing = standing
chosen (Some (Named name)) standing = Some name
chosen (Some Cleared) standing = None

-- ---- restrictions

abbrev pub wanted_of : Princ → Wanted
wanted_of h = record {
  attributes = h.attributes;
  policy = h.policy;
  expire = h.expire;
  pw_expire = h.pw_expire;
  max_life = h.max_life;
  max_renew = h.max_renew;
}

abbrev pub with_wanted : Wanted → Princ → Princ
with_wanted w h = record h {
  attributes = w.attributes;
  policy = w.policy;
  expire = w.expire;
  pw_expire = w.pw_expire;
  max_life = w.max_life;
  max_renew = w.max_renew;
}

-- what restrictions leave of the fields
abbrev pub limited : Option Limits → ℕ → Princ → Princ
limited None secs h = h
limited (Some limits) secs h = with_wanted (restricted limits secs (wanted_of h)) h

-- what they leave of the policy
abbrev pub forced : Option Limits → Option (List ℕ) → Option (List ℕ)
forced None policy = policy
forced (Some limits) policy = unwrap_or limits.policy policy

-- ---- new keys

-- when a password set at this second expires, at most the greatest time; without a greatest life never
unfoldable pub expiry : ℕ → ℕ → ℕ
expiry life secs = if life == 0 then 0 else min (secs + life) 4294967295

-- new keys were set in this second, under a policy of this greatest life
abbrev pub keyed : ℕ → ℕ → Princ → Princ
keyed life secs h = record h { pw_changed = Some secs; pw_expire = expiry life secs }

abbrev pub keyed_by : Option ℕ → ℕ → Princ → Princ
keyed_by None secs h = h
keyed_by (Some life) secs h = keyed life secs h

-- ---- attributes

-- the password has to be changed at the next use
abbrev pub needchange : ℕ
needchange = 0x200

-- the keys may be taken and set by nobody over a connection
abbrev pub lockdown_keys : ℕ
lockdown_keys = 0x800000

abbrev pub without_bit : ℕ → ℕ → ℕ
without_bit bit attributes = bit_and attributes (bit_not w32 bit)

abbrev pub has_bit : ℕ → ℕ → Bool
has_bit bit attributes = bit_and attributes bit == bit

-- ---- records

-- a new principal of this printed name under this version of the master key
unfoldable pub blank_head : List ℕ → ℕ → Option (List ℕ) → Princ
blank_head name active policy = record {
  name = name;
  attributes = 0;
  max_life = 0;
  max_renew = 0;
  expire = 0;
  pw_expire = 0;
  pw_changed = None;
  modified = 0;
  modifier = [];
  mkvno = active;
  keys = [];
  policy = policy;
  old = [];
  chain = None;
  strings = [];
}

-- addprinc, with the policy of its line; `life` is the greatest life under the policy in force, where keys are set.
-- Restrictions come last.
unfoldable pub added_head : List ℕ → ℕ → Option (List ℕ) → Option ℕ → Option Limits → PrincOptions → By → Princ
added_head name active policy life limits options by =
    limited limits by.secs (marked by (with_options options (keyed_by life by.secs (blank_head name active policy))))

-- modprinc
unfoldable pub modified_head : Option PolicyChoice → Option Limits → PrincOptions → By → Princ → Princ
modified_head choice limits options by h =
    limited limits by.secs (marked by (with_options options (record h { policy = chosen choice h.policy })))

-- cpw, under this version of the master key and a policy of this greatest life
unfoldable pub rekeyed_head : ℕ → ℕ → By → Princ → Princ
rekeyed_head active life by h =
    marked by (keyed life by.secs (record h { attributes = without_bit needchange h.attributes; mkvno = active }))

-- renprinc
abbrev pub renamed_head : List ℕ → By → Princ → Princ
renamed_head name by h = marked by (record h { name = name })
