use Rattle.std.proofs.Common.{◌-◌, ◌∙◌, ap}
use Rattle.aes_cts.specs.Cipher.{cipher_by}
use Rattle.aes_cts.specs.Words.{schedule_bytes}
use Rattle.aes_cts.proofs.rounds.encrypt.Goals as goal

pub returns : goal.returns
returns g c = c.unpack.ensures ∙ c.encrypt_packed.ensures
    ∙ ap (cipher_by (schedule_bytes c.args.keys.now) (g.row.N - 1)) c.pack.ensures
