use Rattle.std.proofs.Common.{rules, ◌≡◌, ◌+◌, length, subst, sym, ap, Bool, IsTrue, ℕ}
use Rattle.stable_store.specs.Changes.{spelled_change}
use Rattle.stable_store.specs.Stores.{changed}
use Rattle.journal_store.specs.Disks.{DiskState}
use Rattle.journal_store.specs.Journals.{staged}
use Rattle.journal_store.specs.Serving.{IsSettled}
use Rattle.journal_store.proofs.Mending.{settled_staged}
use Rattle.journal_store.proofs.Standing.{serving}
use Rattle.journal_store.proofs.Kept.{doubt_on, moments_of, settled_on, sound_on}
use Rattle.journal_store.proofs.append.append.Goals as goal

pub returns-in_err-put_behind_gate-clause-any_moment : goal.returns-in_err-put_behind_gate-clause-any_moment
returns-in_err-put_behind_gate-clause-any_moment g c = λ h s settled may.
    let bytes_are : c.deref.result.now ≡ staged (spelled_change g.B.Wire.spelled c.args.change.now) = search rules in
    moments_of g.B.Wire.spelled g.B.Wire.fits g.B.Wire.taken g.met.B.Wire.is_codec _ _ s c.args.place settled c.args.change.now c.record.ensures.fits may c.deref.result.now bytes_are c.put_behind_gate.new.known
    (c.put_behind_gate.ensures.moments h (ap (λ (d : DiskState). d.left) settled.settled))

pub returns-clause-any_moment : goal.returns-clause-any_moment
returns-clause-any_moment g c = λ h s settled may.
    let bytes_are : c.deref.result.now ≡ staged (spelled_change g.B.Wire.spelled c.args.change.now) = search rules in
    moments_of g.B.Wire.spelled g.B.Wire.fits g.B.Wire.taken g.met.B.Wire.is_codec _ _ s c.args.place settled c.args.change.now c.record.ensures.fits may c.deref.result.now bytes_are c.put_behind_gate.new.known
    (c.put_behind_gate.ensures.moments h (ap (λ (d : DiskState). d.left) settled.settled))

pub returns-clause-settled : goal.returns-clause-settled
returns-clause-settled g c = λ h s settled may.
    let bytes_are : c.deref.result.now ≡ staged (spelled_change g.B.Wire.spelled c.args.change.now) = search rules in
    let len_is : c.len.result ≡ length c.deref.result.now = search rules in
    subst (λ (n : ℕ). IsSettled g.B.Wire.taken (g.D.Disk.states c.put_behind_gate.new.disk) (changed s c.args.change.now) (c.args.place + n)) (sym len_is)
    (settled_on g.B.Wire.spelled g.B.Wire.fits g.B.Wire.taken g.met.B.Wire.is_codec _ _ s c.args.place settled c.args.change.now c.record.ensures.fits may c.deref.result.now bytes_are (c.in_ok-put_behind_gate.ensures.settled h (ap (λ (d : DiskState). d.left) settled.settled)))

pub returns-in_err-put_behind_gate-clause-sound : goal.returns-in_err-put_behind_gate-clause-sound
returns-in_err-put_behind_gate-clause-sound g c = λ h s settled may.
    let still = subst (λ (b : Bool). IsTrue b) (sym c.put_behind_gate.ensures.honest) h in
    let bytes_are : c.deref.result.now ≡ staged (spelled_change g.B.Wire.spelled c.args.change.now) = search rules in
    sound_on g.B.Wire.spelled g.B.Wire.fits g.B.Wire.taken g.met.B.Wire.is_codec _ _ s c.args.place settled c.args.change.now c.record.ensures.fits may c.deref.result.now bytes_are c.put_behind_gate.new.known
    (c.put_behind_gate.ensures.moments h (ap (λ (d : DiskState). d.left) settled.settled)) (g.met.D.Disk.reads_as c.put_behind_gate.new.disk still)

pub returns-in_err-put_behind_gate-clause-doubt : goal.returns-in_err-put_behind_gate-clause-doubt
returns-in_err-put_behind_gate-clause-doubt g c = λ h s settled may.
    let still = subst (λ (b : Bool). IsTrue b) (sym c.put_behind_gate.ensures.honest) h in
    let bytes_are : c.deref.result.now ≡ staged (spelled_change g.B.Wire.spelled c.args.change.now) = search rules in
    doubt_on g.B.Wire.spelled g.B.Wire.fits g.B.Wire.taken g.met.B.Wire.is_codec _ _ s c.args.place settled c.args.change.now c.record.ensures.fits may c.deref.result.now bytes_are c.put_behind_gate.new.known
    (c.put_behind_gate.ensures.moments h (ap (λ (d : DiskState). d.left) settled.settled)) (g.met.D.Disk.reads_as c.put_behind_gate.new.disk still)

pub returns-clause-sound : goal.returns-clause-sound
returns-clause-sound g c = λ h s settled may.
    let still = subst (λ (b : Bool). IsTrue b) (sym c.put_behind_gate.ensures.honest) h in
    let bytes_are : c.deref.result.now ≡ staged (spelled_change g.B.Wire.spelled c.args.change.now) = search rules in
    sound_on g.B.Wire.spelled g.B.Wire.fits g.B.Wire.taken g.met.B.Wire.is_codec _ _ s c.args.place settled c.args.change.now c.record.ensures.fits may c.deref.result.now bytes_are c.put_behind_gate.new.known
    (c.put_behind_gate.ensures.moments h (ap (λ (d : DiskState). d.left) settled.settled)) (g.met.D.Disk.reads_as c.put_behind_gate.new.disk still)

pub returns-clause-doubt : goal.returns-clause-doubt
returns-clause-doubt g c = λ h s settled may.
    let still = subst (λ (b : Bool). IsTrue b) (sym c.put_behind_gate.ensures.honest) h in
    let bytes_are : c.deref.result.now ≡ staged (spelled_change g.B.Wire.spelled c.args.change.now) = search rules in
    doubt_on g.B.Wire.spelled g.B.Wire.fits g.B.Wire.taken g.met.B.Wire.is_codec _ _ s c.args.place settled c.args.change.now c.record.ensures.fits may c.deref.result.now bytes_are c.put_behind_gate.new.known
    (c.put_behind_gate.ensures.moments h (ap (λ (d : DiskState). d.left) settled.settled)) (g.met.D.Disk.reads_as c.put_behind_gate.new.disk still)

pub returns-in_err-bytes-clause-sound : goal.returns-in_err-bytes-clause-sound
returns-in_err-bytes-clause-sound g c = λ h s settled may. settled_staged g.B.Wire.taken _ s c.args.place settled

pub returns-in_err-bytes-clause-doubt : goal.returns-in_err-bytes-clause-doubt
returns-in_err-bytes-clause-doubt g c = λ h s settled may. serving g.B.Wire.taken _ s (changed s c.args.change.now) c.args.place settled
