use Rattle.std.proofs.Common.{◌≡◌, ◌++◌, take, drop}
use Rattle.krb_hmac.specs.Hmac.{masked}
use Rattle.krb_hmac.proofs.keyed.mask_all.Given as goal

-- the bytes done, and what the others will be, make the whole
abbrev pub invariant-loop-byte : goal.invariant-loop-byte
invariant-loop-byte l = take l.byte-index l.text ++ masked l.mask (drop l.byte-index l.text) ≡ masked l.mask l.fn.text
