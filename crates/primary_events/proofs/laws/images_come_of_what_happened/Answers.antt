use Rattle.primary_events.proofs.Coming.{images_end, images_kept, images_like, stop_quiet}
use Rattle.primary_events.proofs.Made.{images_made}
use Rattle.primary_events.proofs.Opened.{images_opened}
use Rattle.primary_events.proofs.laws.images_come_of_what_happened.Goals as goal
use Rattle.primary_events.specs.Coming.{IsQuiet, IsStop}

pub returns-clause-like : goal.returns-clause-like
returns-clause-like g c = images_like IsQuiet (g.D.Disk.view c.args.«_disk».now)

pub returns-clause-like_stopped : goal.returns-clause-like_stopped
returns-clause-like_stopped g c = images_like IsStop (g.D.Disk.view c.args.«_disk».now)

pub returns-clause-read : goal.returns-clause-read
returns-clause-read g c = λ tells s each. each _ (g.met.D.Disk.reads_as_image c.args.«_disk».now tells)

pub returns-clause-read_stopped : goal.returns-clause-read_stopped
returns-clause-read_stopped g c = λ tells s each. each _ (g.met.D.Disk.reads_as_image c.args.«_disk».now tells)

pub returns-clause-kept : goal.returns-clause-kept
returns-clause-kept g c = λ o s h on c_ image.
    images_kept (g.D.Disk.view c.args.«_disk».now) o s c_ h (c.what_is_kept_is_recovered.ensures o.kept on) image

pub returns-clause-destroyed : goal.returns-clause-destroyed
returns-clause-destroyed g c = images_end (g.D.Disk.view c.args.«_disk».now)

pub returns-clause-ended : goal.returns-clause-ended
returns-clause-ended g c = λ s c_ none image. none.each c_ image

pub returns-clause-created : goal.returns-clause-created
returns-clause-created g c = images_made (g.D.Disk.view c.args.«_disk».now)

pub returns-clause-opened : goal.returns-clause-opened
returns-clause-opened g c = λ s c_ h f size room clock each may leaves. images_opened IsQuiet stop_quiet
    (g.D.Disk.view c.args.«_disk».now) s _ c_ h f size room clock _ may.found each may leaves

pub returns-clause-opened_stopped : goal.returns-clause-opened_stopped
returns-clause-opened_stopped g c = λ s c_ h f size room clock each may leaves. images_opened IsStop
    (λ event stop. stop) (g.D.Disk.view c.args.«_disk».now) s _ c_ h f size room clock _ may.found each may leaves
