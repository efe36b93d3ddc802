use Rattle.std.proofs.Common.{◌≡◌, ◌++◌, ◌∷◌, drop}
use Rattle.std.specs.List.{flat_map}
use Rattle.kadm_values.specs.Flags.{row_of}
use Rattle.kadm_replies.specs.Princs.{flag_text}
use Rattle.kadm_replies.proofs.flags.push_behind.Given as goal

abbrev pub invariant-loop-flag : goal.invariant-loop-flag
invariant-loop-flag l =
    l.out.items ++ flat_map (λ flag. 32 ∷ flag_text (row_of flag)) (drop l.flag-index l.flags)
    ≡ l.fn.out.items ++ flat_map (λ flag. 32 ∷ flag_text (row_of flag)) l.flags
