-- The restrictions of a line: options of addprinc and modprinc that are put in force.
use Rattle.std.specs.Prelude.{ℕ, Bool, true, ◌==◌, ◌&&◌, List, [], ◌∷◌, length}
use Rattle.std.specs.Prelude.{Option, Some, None, is_none, option_map, if◌then◌else◌}
use Rattle.std.specs.Int.{bit_not}
use Rattle.std.specs.Int.Width.{w32}
use Rattle.std.specs.List.{filter_map}
use Rattle.kadm_options.specs.OptionValues.{first_bad_in, flag_of, policy_given, seconds_given}
use Rattle.kadm_options.specs.Options.{OptionParts, are_single, option_named, options_in}
use Rattle.kadm_values.specs.Flags.{with_flags}
use Rattle.kadm_options.specs.declared.options.Given.{Given}
use Rattle.kadm_options.specs.declared.options.Opening.{Opening}
use Rattle.kadm_options.specs.declared.options.Opening.TheVariants.{Alone, Value}
use Rattle.kadm_options.specs.declared.options.OptionName.TheVariants as option
use Rattle.kadm_options.specs.declared.options.ValueKind.TheVariants.{Duration, PolicyName}
use Rattle.kdb_base.specs.declared.outcomes.Field.TheVariants as field
use Rattle.acl_text.specs.declared.limits.Limits.{Limits}

-- ---- the words

-- what may stand beside flags: the times are durations
unfoldable pub restrictions : List Opening
restrictions =
    Alone option.ClearPolicy
    ∷ Value (record { option = option.Policy; kind = PolicyName; field = field.Policy })
    ∷ Value (record { option = option.Expire; kind = Duration; field = field.Expire })
    ∷ Value (record { option = option.PwExpire; kind = Duration; field = field.PwExpire })
    ∷ Value (record { option = option.MaxLife; kind = Duration; field = field.MaxLife })
    ∷ Value (record { option = option.MaxRenewLife; kind = Duration; field = field.MaxRenewLife })
    ∷ []

-- each setting at most once, and a value for each
unfoldable pub are_restrictions : List Given → Bool
are_restrictions options = are_single options && is_none (first_bad_in options)

-- ---- what they put in force

-- the flags are those of a command, of which the last one on a bit counts: what they leave of no bits is forced on, and
-- what they take of all bits is forced off
unfoldable pub limits_of : List Given → Limits
limits_of options = record {
  set = with_flags 0 (filter_map flag_of options);
  clear = bit_not w32 (with_flags 4294967295 (filter_map flag_of options));
  policy = policy_given options;
  expire = seconds_given option.Expire options;
  pw_expire = seconds_given option.PwExpire options;
  max_life = seconds_given option.MaxLife options;
  max_renew = seconds_given option.MaxRenewLife options;
}

-- what restrictions put in force, where no words are left behind them
unfoldable pub limits_by : List Given → ℕ → Option Limits
limits_by options left = if left == 0 && are_restrictions options then Some (limits_of options) else None

abbrev pub limits_from : Option OptionParts → Option Limits
limits_from None = None
limits_from (Some parts) = limits_by parts.options (length parts.rest)

-- the restrictions that words are, one after the other
unfoldable pub limits_among : List (List ℕ) → Option Limits
limits_among words = limits_from (options_in (option_named restrictions true) words)

-- none where no word stands, and nothing where the words are bad
unfoldable pub limits_in : List (List ℕ) → Option (Option Limits)
limits_in [] = Some None
limits_in (word ∷ words) = option_map (λ limits. Some limits) (limits_among (word ∷ words))
