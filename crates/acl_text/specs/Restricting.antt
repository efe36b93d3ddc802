-- What restrictions make of the fields of a principal.
use Rattle.std.specs.Prelude.{ℕ, ◌+◌, ◌==◌, Bool, false, Option, Some, None, min, is_some}
use Rattle.std.specs.Prelude.{option_map, unwrap_or, if◌then◌else◌, bit_and, bit_or, List}
use Rattle.std.specs.Int.{bit_not}
use Rattle.std.specs.Int.Width.{w32}
use Rattle.acl_text.specs.declared.limits.Limits.{Limits}
use Rattle.acl_text.specs.declared.limits.Wanted.{Wanted}

-- the lesser of a time, of which 0 is endless, and a stated one
abbrev pub lesser : ℕ → Option ℕ → ℕ
lesser own None = own
lesser own (Some stated) = if own == 0 then stated else min own stated

-- a duration from a moment on, at most the greatest time
abbrev pub counted_from : ℕ → ℕ → ℕ
counted_from secs duration = min (secs + duration) 4294967295

-- whether a policy is put in force by its name
abbrev pub names_policy : Option (Option (List ℕ)) → Bool
names_policy None = false
names_policy (Some policy) = is_some policy

-- the fields of a change that is made at this second
unfoldable pub restricted : Limits → ℕ → Wanted → Wanted
restricted limits secs wanted = record {
  attributes = bit_and (bit_or wanted.attributes limits.set) (bit_not w32 limits.clear);
  policy = unwrap_or limits.policy wanted.policy;
  expire = lesser wanted.expire (option_map (counted_from secs) limits.expire);
  pw_expire = lesser wanted.pw_expire (option_map (counted_from secs) limits.pw_expire);
  max_life = lesser wanted.max_life limits.max_life;
  max_renew = lesser wanted.max_renew limits.max_renew;
}
