-- What happens at a replica: what replies, dumps and openings make of it, and what it tells others as a node.
use Rattle.std.specs.Prelude.{ℕ, ◌≡◌, ◌<◌, ◌≤◌, ◌+◌, ◌-◌, Bool, true, false, ◌&&◌, nat_eq, List}
use Rattle.std.specs.Prelude.{[], ◌∷◌, Contains, take, Option, Some, None, if◌then◌else◌}
use Rattle.acl_text.specs.declared.rules.AclLine.{AclLine}
use Rattle.iprop_reply.specs.Polls.{is_point}
use Rattle.iprop_truths.specs.Polls.{PollReply, dumps_busy, nothing_new, poll_denied, poll_reply, reply_of}
use Rattle.iprop_truths.specs.Pulling.{denies_pull}
use Rattle.iprop_truths.specs.Truths.{Dumped, Has, HoldsFrom, Message, Reply}
use Rattle.kdb_base.specs.declared.moments.Point.{Point}
use Rattle.kdb_places.specs.Places.{Contents, Place, contents_of, created, log_anew, no_point, point_of, replaced}
use Rattle.princ_name.specs.Names.{NameParts}
use Rattle.replica_steps.specs.Judging.{made_by_reply}

pub record Replica : Type 0 where
  -- none without a database
  pub place : Option Place
  -- the log size with which it was opened
  pub size : ℕ
  -- whether it is open
  pub up : Bool
  -- as a node, the dumps under way and how many there may be
  pub dumps : ℕ
  pub room : ℕ

abbrev pub no_replica : Replica
no_replica = record { place = None; size = 1000; up = false; dumps = 0; room = 0 }

-- ---- what is made of it

pub data Task : Type 0 where
  Take : (reply : PollReply) → Task
  Install : (dump : Contents) → Task
  -- an opening with this log size
  Reopen : (size : ℕ) → Task

abbrev pub loaded : ℕ → Option Place → Contents → Place
loaded size None d = created d.realm d.rows d.point size 2048 None 2
loaded size (Some p) d = replaced d.realm d.rows d.point p

-- another log size, or format 1, begins the log anew at the same point
abbrev pub reopened : ℕ → Option Place → List Place
reopened size None = []
reopened size (Some p) = if nat_eq p.format 2 && nat_eq size p.size then [] else log_anew (point_of p) size p.block p ∷ []

-- the places that a task makes of a replica, in their order
abbrev pub task_makes : ℕ → Option Place → Task → List Place
task_makes size place (Take r) = made_by_reply size place r
task_makes size place (Install d) = loaded size place d ∷ []
task_makes size place (Reopen n) = reopened n place

-- the last of these, or what there was
abbrev pub place_after : Option Place → List Place → Option Place
place_after place [] = place
place_after place (q ∷ others) = place_after (Some q) others

abbrev pub size_after : ℕ → Task → ℕ
size_after size (Take r) = size
size_after size (Install d) = size
size_after size (Reopen n) = n

-- an opening is no node yet
abbrev pub node_after : Task → ℕ → ℕ
node_after (Take r) n = n
node_after (Install d) n = n
node_after (Reopen size) n = 0

abbrev pub replica_after : Replica → Task → List Place → Bool → Replica
replica_after r task done up = record {
  place = place_after r.place done;
  size = size_after r.size task;
  up = up;
  dumps = node_after task r.dumps;
  room = node_after task r.room;
}

abbrev pub makes_of : Replica → Task → List Place
makes_of r task = task_makes r.size r.place task

abbrev pub with_dumps : ℕ → ℕ → Replica → Replica
with_dumps dumps room r = record r { dumps = dumps; room = room }

abbrev pub fallen : Replica → Replica
fallen r = record r { up = false }

-- every dump place is taken
abbrev pub is_busy : Replica → Bool
is_busy r = nat_eq r.dumps r.room

-- What it tells others of what it holds. Without a database it has nothing new for its own point, and is busy for every
-- other one.
abbrev pub node_reply : Option Place → Bool → Bool → Point → PollReply
node_reply None denied busy asked =
    if denied then reply_of poll_denied asked [] else reply_of (if is_point asked no_point then nothing_new else dumps_busy) asked []
node_reply (Some p) denied busy asked = poll_reply denied busy asked p.held

-- ---- events

pub data ReplicaEvent : Type 0 where
  -- a call that returned
  Does : (task : Task) → ReplicaEvent
  -- one that was stopped by a crash or a fault, or stopped for want of memory, after so many of its places
  DoesPart : (task : Task) (part : ℕ) (up : Bool) → ReplicaEvent
  -- a crash between two calls
  Falls : ReplicaEvent
  -- it serves others, with so many dump places
  NodeServes : (room : ℕ) → ReplicaEvent
  NodePolls : (client : NameParts) (access : Option (List AclLine)) (asked : Point) → ReplicaEvent
  NodeDumps : (client : NameParts) (access : Option (List AclLine)) → ReplicaEvent
  NodeEndsDump : ReplicaEvent

-- what comes to a replica was sent
abbrev pub WasSent : List Message → Task → Type 0
WasSent sent (Take r) = Contains sent (Reply r)
WasSent sent (Install d) = Contains sent (Dumped d)
WasSent sent (Reopen n) = 0 < n

abbrev pub wants_open : Task → Bool
wants_open (Take r) = true
wants_open (Install d) = true
wants_open (Reopen n) = false

pub record Done (sent : List Message) (old new : Replica) (task : Task) (done : List Place) (up : Bool)
    (said : Option Message) : Type 0 where
  pub came : WasSent sent task
  pub ready : old.up ≡ wants_open task
  pub is : new ≡ replica_after old task done up
  pub silent : said ≡ None

pub record Becomes (replica new : Replica) (said : Option Message) : Type 0 where
  pub is : new ≡ replica
  pub silent : said ≡ None

pub record NodeServed (old new : Replica) (room : ℕ) (said : Option Message) : Type 0 where
  pub ready : old.up ≡ true
  pub from : 1 ≤ room
  pub upto : room ≤ 16
  pub is : new ≡ with_dumps 0 room old
  pub silent : said ≡ None

pub record NodePolled (old new : Replica) (client : NameParts) (access : Option (List AclLine)) (asked : Point)
    (said : Option Message) : Type 0 where
  pub ready : old.up ≡ true
  pub is : new ≡ old
  pub says : said ≡ Some (Reply (node_reply old.place (denies_pull access client) (is_busy old) asked))

pub record NodeDumped (old new : Replica) (client : NameParts) (access : Option (List AclLine))
    (said : Option Message) : Type 0 where
  pub place : Place
  pub at : old.place ≡ Some place
  pub ready : old.up ≡ true
  pub allowed : denies_pull access client ≡ false
  pub free : is_busy old ≡ false
  pub is : new ≡ with_dumps (old.dumps + 1) old.room old
  pub says : said ≡ Some (Dumped (contents_of place))

pub record NodeEnded (old new : Replica) (said : Option Message) : Type 0 where
  pub ready : old.up ≡ true
  pub is : new ≡ with_dumps (old.dumps - 1) old.room old
  pub silent : said ≡ None

-- where these messages were sent, the event leads from the one to the other, and this is sent
abbrev pub HappensTo : List Message → ReplicaEvent → Replica → Replica → Option Message → Type 0
HappensTo sent (Does task) old new said = Done sent old new task (makes_of old task) true said
HappensTo sent (DoesPart task part up) old new said = Done sent old new task (take part (makes_of old task)) up said
HappensTo sent Falls old new said = Becomes (fallen old) new said
HappensTo sent (NodeServes room) old new said = NodeServed old new room said
HappensTo sent (NodePolls client access asked) old new said = NodePolled old new client access asked said
HappensTo sent (NodeDumps client access) old new said = NodeDumped old new client access said
HappensTo sent NodeEndsDump old new said = NodeEnded old new said

-- Whatever was sent comes again and in any order.
abbrev pub ReplicaRun : List Message → Replica → List ReplicaEvent → Replica → Type 0
ReplicaRun sent old [] new = new ≡ old
ReplicaRun sent old (event ∷ events) new =
    (next : Replica) × (said : Option Message) × HappensTo sent event old next said × ReplicaRun sent next events new

-- ---- what holds of it

-- It has the contents of a place, and what it holds leads up to them.
pub record IsCopy (places : List Place) (p : Place) : Type 0 where
  pub has : Has places (contents_of p)
  pub held : HoldsFrom places p.held (contents_of p)
  pub sized : 0 < p.size

abbrev pub MayBeCopy : List Place → Option Place → Type 0
MayBeCopy places None = Unit {0}
MayBeCopy places (Some p) = IsCopy places p

pub record ReplicaHolds (places : List Place) (r : Replica) : Type 0 where
  pub copy : MayBeCopy places r.place
  pub some : 0 < r.size
