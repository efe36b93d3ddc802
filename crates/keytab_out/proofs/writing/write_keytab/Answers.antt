use Rattle.std.proofs.Common.{◌≡◌, refl, sym, subst}
use Rattle.stash_file.specs.Keytabs.{IsKeytab}
use Rattle.std.specs.List.{All}
use Rattle.keytab_out.specs.Entries.{IsListed, keytab_text}
use Rattle.keytab_out.proofs.Files.{holds_written}
use Rattle.keytab_out.proofs.writing.write_keytab.Goals as goal

pub returns-clause-read_back : goal.returns-clause-read_back
unfolding keytab_text
returns-clause-read_back c =
    let listed = subst (All IsListed) c.as_slice.ensures.value c.as_slice.ensures.listed in
    let text : c.from_vec.result ≡ keytab_text c.args.list.now = rw (
      c.from_vec.ensures,
      c.in_ok-push_entries.ensures,
      c.in_ok-push_bytes.ensures.ok,
      c.new-out.ensures.items,
      c.as_slice.ensures.value,
    ) refl in
    subst (λ t. IsKeytab t c.args.list.now) (sym text) (holds_written c.args.list.now listed)
