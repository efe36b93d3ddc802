-- Whether a change begins the log anew is told of the state.
use Rattle.std.proofs.Common.{◌≡◌, ◌||◌, Option, Some, None, refl, sym, ap, ◌∙◌}
use Rattle.std.specs.Prelude.{nat_eq, nat_le}
use Rattle.std.specs.Option.{option_or}
use Rattle.command_plans.specs.KeptEntries.{kept_entry, kept_entry_of}
use Rattle.entry_lengths.specs.Lengths.{IsAsLong, entry_len_in}
use Rattle.entry_lengths.specs.Resets.{HasItsBlock, block_in, block_over, due_in, is_due_in}
use Rattle.iprop_truths.specs.Blocks.{block_for}
use Rattle.kadm_commands.specs.declared.commands.Command.{Command}
use Rattle.kadm_commands.specs.declared.commands.Command.TheVariants as command
use Rattle.kdb_base.specs.declared.moments.Point.{Point}
use Rattle.kdb_histories.specs.Asks.{Commanded, kept_op}
use Rattle.kdb_histories.specs.Seen.{due_at, is_due_of, seen}
use Rattle.kdb_model.specs.Calls.{Call}
use Rattle.kdb_model.specs.Entries.{entry}
use Rattle.kdb_places.specs.Places.{Place, point_of}
use Rattle.kdb_plain.specs.declared.changes.PlainOp.{PlainOp}
use Rattle.kdb_plain.specs.declared.states.State.{State}
use Rattle.mkey_admin.specs.KeptMasters.{kept_masters, kept_masters_of}
use Rattle.princ_rows.specs.Entries.{entry_len}
use Rattle.princ_rows.specs.declared.entries.Op.{Op}
use Rattle.princ_rows.specs.Rows.{RowLists}
use Rattle.row_keys.specs.Sides.{AreBoth}

-- ---- the change of rows that the call would make

pub kept_is_entry : (rows : RowLists) (s : State) (call : Call) (o : Op) → kept_entry rows s call ≡ Some o
    → kept_op rows s (Commanded call) ≡ Some o
unfolding kept_op
kept_is_entry rows s call o exact = ap (λ (x : Option Op). option_or x (kept_masters rows s call)) exact

-- a command of master keys has none but that of K/M
no_entry : (rows : RowLists) (s : State) (call : Call) (cmd : Command) (o : Op)
    → kept_masters_of rows s call cmd ≡ Some o → kept_entry_of rows s call cmd ≡ None
unfolding kept_entry_of kept_masters_of
no_entry rows s call (command.AddMaster etype) o e = refl
no_entry rows s call (command.UseMaster c) o e = refl
no_entry rows s call command.PurgeMasters o e = refl
no_entry rows s call (command.AddPrinc c) o e = absurd cc
no_entry rows s call (command.ModPrinc c) o e = absurd cc
no_entry rows s call (command.ChangeKeys c) o e = absurd cc
no_entry rows s call (command.RenPrinc c) o e = absurd cc
no_entry rows s call (command.DelPrinc name) o e = absurd cc
no_entry rows s call (command.PurgeKeys c) o e = absurd cc
no_entry rows s call (command.SetString c) o e = absurd cc
no_entry rows s call (command.DelString c) o e = absurd cc
no_entry rows s call (command.AddPolicy p) o e = absurd cc
no_entry rows s call (command.ModPolicy c) o e = absurd cc
no_entry rows s call (command.DelPolicy name) o e = absurd cc
no_entry rows s call (command.GetPrinc name) o e = absurd cc
no_entry rows s call (command.ListPrincs glob) o e = absurd cc
no_entry rows s call (command.GetStrings name) o e = absurd cc
no_entry rows s call (command.Extract name) o e = absurd cc
no_entry rows s call (command.GetPolicy name) o e = absurd cc
no_entry rows s call command.ListPolicies o e = absurd cc
no_entry rows s call command.GetPrivs o e = absurd cc
no_entry rows s call command.ListMasters o e = absurd cc
no_entry rows s call (command.RekeyPrincs glob) o e = absurd cc
no_entry rows s call command.Stash o e = absurd cc
no_entry rows s call command.Dump o e = absurd cc

pub kept_is_masters : (rows : RowLists) (s : State) (call : Call) (o : Op) → kept_masters rows s call ≡ Some o
    → kept_op rows s (Commanded call) ≡ Some o
unfolding kept_op
kept_is_masters rows s call o exact =
    ap (λ (x : Option Op). option_or x (kept_masters rows s call)) (no_entry rows s call call.command o exact) ∙ exact

-- ---- by the length of its entry

pub due_told : (p : Place) (s : State) (call : Call) (o : Op) (plain : PlainOp)
    → kept_op p.rows s (Commanded call) ≡ Some o → entry s call ≡ Some plain → s.point ≡ point_of p
    → entry_len (Some o) ≡ entry_len_in s plain → due_at (Commanded call) (seen p s) ≡ due_in p.block s call
due_told p s call o plain kept e at long =
    ap (λ (x : Option Op). is_due_of x p) kept
    ∙ ap (λ n. nat_eq (point_of p).sno 4294967295 || nat_le p.block n) long
    ∙ ap (λ (x : Point). nat_eq x.sno 4294967295 || nat_le p.block (entry_len_in s plain)) (sym at)
    ∙ ap (λ (x : Option PlainOp). is_due_in p.block s x) (sym e)

pub block_told : (p : Place) (s : State) (o : Op) (plain : PlainOp) → entry_len (Some o) ≡ entry_len_in s plain
    → block_for o p ≡ block_in p.block s plain
block_told p s o plain long = ap (λ n. block_over p.block n) long

-- ---- by both changes, where they are found

pub due_both : (p : Place) (s : State) (kept : Option Op) (plain : Option PlainOp) → s.point ≡ point_of p
    → AreBoth (IsAsLong s) kept plain → is_due_of kept p ≡ is_due_in p.block s plain
due_both p s None None at both = refl
due_both p s None (Some plain) at both = absurd both
due_both p s (Some o) None at both = absurd both
due_both p s (Some o) (Some plain) at long =
    ap (λ n. nat_eq (point_of p).sno 4294967295 || nat_le p.block n) long
    ∙ ap (λ (x : Point). nat_eq x.sno 4294967295 || nat_le p.block (entry_len_in s plain)) (sym at)

pub block_both : (p : Place) (s : State) (kept : Option Op) (plain : Option PlainOp) → AreBoth (IsAsLong s) kept plain
    → AreBoth (HasItsBlock p s) kept plain
block_both p s None None both = tt
block_both p s None (Some plain) both = absurd both
block_both p s (Some o) None both = absurd both
block_both p s (Some o) (Some plain) long = block_told p s o plain long
