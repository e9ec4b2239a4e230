-- Each turn leaves the halves of the domains apart, and no more frames used than there are.
use Rattle.std.proofs.Common.{◌≡◌, ◌≢◌, ℕ, ◌+◌, ◌*◌, ◌<◌, ◌≤◌, Bool, true, false, cond, inl, inr, List, [], ◌∷◌, ◌++◌, length, set, Some, None, refl, sym, ap, subst, ◌∙◌, arith}
use Rattle.std.specs.Prelude.{⊤, nat_lt}
use Rattle.std.specs.Option.{is_some}
use Rattle.std.specs.FinMap as fm
use Rattle.std.proofs.lemmas.Bool.{false≢true, ltb-false}
use Rattle.std.proofs.lemmas.List.{get_or-set_same}
use Rattle.neph_base.specs.declared.command.Command.{Command}
use Rattle.neph_base.specs.declared.command.Command.TheVariants as command
use Rattle.neph_base.specs.declared.reply.Entry.TheVariants.{Line}
use Rattle.neph_base.specs.declared.reply.Reply.TheVariants as reply
use Rattle.neph_base.specs.declared.reply.Refusal.TheVariants.{Frames}
use Rattle.neph_model.specs.declared.own.Own.{Own}
use Rattle.neph_model.specs.declared.script.Script.{Script}
use Rattle.neph_model.specs.declared.life.Guest.{Guest}
use Rattle.neph_model.specs.declared.book.Book.{Book}
use Rattle.neph_model.specs.declared.book.Stage.TheVariants.{Ready, Forking}
use Rattle.neph_model.specs.declared.book.Spends.{Spends}
use Rattle.neph_model.specs.declared.book.Spends.TheVariants.{Nothing, Leaf, Copy}
use Rattle.neph_model.specs.declared.told.Told.{Told}
use Rattle.neph_model.specs.declared.told.Told.TheVariants.{Enough, Short, Free}
use Rattle.neph_model.specs.WellFormed.{IsWellFormed}
use Rattle.neph_model.specs.Programs.{command_at}
use Rattle.neph_model.specs.Machine.{no_own, no_guest, own_at, exposed_at, program_of, size_of, guest_at, but_handles}
use Rattle.neph_model.specs.Trap.{lacks_frames, begin_clone}
use Rattle.neph_model.specs.Births.{end_domain}
use Rattle.neph_model.specs.Step.{Outcome, step}
use Rattle.neph_model.specs.Books.{Books, State, free, no_book, put_book, book_spent, fresh_spent, shared_count}
use Rattle.neph_model.specs.Turns.{quietly, book_after, line_turn}
use Rattle.neph_runs.specs.Orderly.{Seat, seat, IsOrderly, outline}
use Rattle.neph_runs.proofs.Sums.{same_or}
use Rattle.neph_runs.proofs.Lines.{Goes, Ends, Begins, line_kind, goes_no_exit, begins_clone}
use Rattle.neph_runs.proofs.Seats.{OneChanged, book_turns, goes_turns, ends_turns, begins_turns}
use Rattle.neph_runs.proofs.Births.{TwoChanged}
use Rattle.neph_runs.proofs.Falls.{AtLine, next_id, live_within, after_line, none_begun, plain_book, line_falls}
use Rattle.neph_runs.proofs.Says.{Says, WritesWhere}
use Rattle.neph_runs.proofs.Steps.{Steps, half_of, half_at}
use Rattle.neph_runs.proofs.StepsBy.{leaf_of, page_written, command_steps}
use Rattle.neph_runs.proofs.Colours.{bit, times, times_set, spares_put}
use Rattle.neph_runs.proofs.Accounts.{aside_at, frames_used, free_is, one_uses, colours_put, need_with}
use Rattle.neph_runs.proofs.Sound.{AreHalves, steps_halves}
use Rattle.neph_runs.proofs.Caps.{IsCapped, steps_capped}

-- the command at the line of a seat
abbrev pub seat_command : Script → Seat → Command
seat_command s x = command_at s (program_of x.life) x.own.line

-- the halves of a live domain are apart, it copies only at a write, it stands on no more frames than its family may, and its life tells how many pages it has
pub record IsSoundAt (s : Script) (x : Seat) : Type 0 where
  pub halves : AreHalves (half_of x)
  pub writes : WritesWhere x.book.stage (seat_command s x)
  pub capped : IsCapped s x.life x.own
  pub sized : length x.own.pages ≡ size_of x.life

-- a state in order, whose domains are so, and which uses no more frames than there are
pub record IsSound (s : Script) (st : State) : Type 0 where
  pub orderly : IsOrderly st
  pub seats : (id : ℕ) → is_some (seat st id).life ≡ true → IsSoundAt s (seat st id)
  pub room : frames_used st ≤ s.frames

-- what holds of each live seat, where one changed
pub one_seats : (P : Seat → Type 0) (st new : State) (id : ℕ) (x : Seat) → ((j : ℕ) → is_some (seat st j).life ≡ true → P (seat st j)) → OneChanged st new id x → (is_some x.life ≡ true → P x) → (j : ℕ) → is_some (seat new j).life ≡ true → P (seat new j)
one_seats P st new id x all turns here j = same_or {P = is_some (seat new j).life ≡ true → P (seat new j)} j id
    (λ e live. let is : seat new j ≡ x = ap (seat new) e ∙ turns.here in subst P (sym is) (here (ap (λ (v : Seat). is_some v.life) (sym is) ∙ live)))
    (λ ne live. let is = turns.others j ne in subst P (sym is) (all j (ap (λ (v : Seat). is_some v.life) (sym is) ∙ live)))

-- and where two changed
pub two_seats : (P : Seat → Type 0) (st new : State) (id child : ℕ) (x y : Seat) → ((j : ℕ) → is_some (seat st j).life ≡ true → P (seat st j)) → TwoChanged st new id child x y → (is_some x.life ≡ true → P x) → (is_some y.life ≡ true → P y)
    → (j : ℕ) → is_some (seat new j).life ≡ true → P (seat new j)
two_seats P st new id child x y all bears here there j = same_or {P = is_some (seat new j).life ≡ true → P (seat new j)} j id
    (λ e live. let is : seat new j ≡ x = ap (seat new) e ∙ bears.parent_is in subst P (sym is) (here (ap (λ (v : Seat). is_some v.life) (sym is) ∙ live)))
    (λ off.
    same_or {P = is_some (seat new j).life ≡ true → P (seat new j)} j child
    (λ e live. let is : seat new j ≡ y = ap (seat new) e ∙ bears.child_is in subst P (sym is) (there (ap (λ (v : Seat). is_some v.life) (sym is) ∙ live)))
    (λ away live. let is = bears.others j off away in subst P (sym is) (all j (ap (λ (v : Seat). is_some v.life) (sym is) ∙ live))))

-- how many copies a spare becomes
abbrev pub copy_of : Spends → ℕ
copy_of Nothing = 0
copy_of Leaf = 0
copy_of (Copy pfn) = 1

pub fresh_is : (spends : Spends) (fresh : ℕ) → fresh_spent spends fresh ≡ fresh + copy_of spends
fresh_is Nothing fresh = omega arith
fresh_is Leaf fresh = omega arith
fresh_is (Copy pfn) fresh = refl

pub copy_most : (spends : Spends) → copy_of spends ≤ 1
copy_most Nothing = omega arith
copy_most Leaf = omega arith
copy_most (Copy pfn) = omega arith

-- a spare that is spent was there
abbrev pub Spares : Spends → Bool → Type 0
Spares Nothing spare = ⊤
Spares Leaf spare = spare ≡ true
Spares (Copy pfn) spare = spare ≡ true

pub says_spares : (n : ℕ) (bs : Books) (o : Own) (b : Book) (c : Command) (t : Told) (sp : Spends) → Says n bs o b c t sp → Spares sp b.spare
says_spares n bs o b c t Nothing h = tt
says_spares n bs o b (command.Map vpn pfn mode) Enough Leaf h = h.1
says_spares n bs o b (command.W addr bytes) Enough (Copy pfn) h = h.1
says_spares n bs o b _ Enough Leaf h = absurd h
says_spares n bs o b (command.W addr bytes) Short Leaf h = absurd h
says_spares n bs o b _ Short Leaf h = absurd h
says_spares n bs o b (command.W addr bytes) (Free f) Leaf h = absurd h
says_spares n bs o b _ (Free f) Leaf h = absurd h
says_spares n bs o b _ Enough (Copy pfn) h = absurd h
says_spares n bs o b (command.W addr bytes) Short (Copy pfn) h = absurd h
says_spares n bs o b _ Short (Copy pfn) h = absurd h
says_spares n bs o b (command.W addr bytes) (Free f) (Copy pfn) h = absurd h
says_spares n bs o b _ (Free f) (Copy pfn) h = absurd h

pub spent_spare : (sp : Spends) (fresh : ℕ) (b : Book) → Spares sp b.spare → leaf_of sp + copy_of sp + bit (book_spent sp fresh b).spare ≡ bit b.spare
spent_spare Nothing fresh b h = omega arith
spent_spare Leaf fresh b h = let one = ap bit h in omega (arith, one)
spent_spare (Copy pfn) fresh b h = let one = ap bit h in omega (arith, one)

pub spent_times : (sp : Spends) (fresh : ℕ) (b : Book) (c : ℕ) → c < fresh → times c (book_spent sp fresh b).colours ≤ times c b.colours
spent_times Nothing fresh b c lt = omega arith
spent_times Leaf fresh b c lt = omega arith
spent_times (Copy pfn) fresh b c lt = times_set c fresh pfn b.colours (λ e. absurd (omega arith))

-- a clone's line spends nothing, and was told how many frames are free
pub clone_says : (n : ℕ) (bs : Books) (o : Own) (b : Book) (t : Told) (sp : Spends) → Says n bs o b command.Clone t sp → (sp ≡ Nothing) × (t ≡ Free n)
clone_says n bs o b (Free f) Nothing h = (refl, ap Free h)
clone_says n bs o b Enough sp h = absurd h
clone_says n bs o b Short sp h = absurd h
clone_says n bs o b (Free f) Leaf h = absurd h
clone_says n bs o b (Free f) (Copy pfn) h = absurd h

enough_free : (n need : ℕ) (t : Told) → t ≡ Free n → lacks_frames need t ≡ None → need ≤ n
enough_free n need t is h = by (nat_lt n need) refl (sym (ap (lacks_frames need) is) ∙ h) where
  by : (b : Bool) → nat_lt n need ≡ b → cond b (Some (Frames need n)) None ≡ None → need ≤ n
  by true e f = absurd cc
  by false e f = ltb-false n need e

module _ (s : Script) (well : IsWellFormed s) (st : State) (id : ℕ) (sound : IsSound s st) (live : is_some (seat st id).life ≡ true) where
  abbrev x : Seat
  x = seat st id

  within : id < 64
  within = live_within st id sound.orderly live

  booked : id < length st.books.list
  booked = let p = sound.orderly.places in omega (arith, within, p.books)

  -- another book of the same colours
  pub quiet_sound : (b : Book) (steps : ℕ) → IsOrderly (quietly st (put_book id b st.books) steps).state → b.colours ≡ x.book.colours → WritesWhere b.stage (seat_command s x) → frames_used st + bit b.spare ≤ s.frames + bit x.book.spare
      → IsSound s (quietly st (put_book id b st.books) steps).state
  quiet_sound b steps orderly same writes room =
      let bs = st.books in
      let y : Seat = record x { book = b } in
      let new = (quietly st (put_book id b bs) steps).state in
      let turns = book_turns st id sound.orderly.places within b bs.fresh in
      let h = sound.seats id live in
      let uses = one_uses st new id y within turns in
      let spares = spares_put bs id b bs.fresh booked in
      let colours = colours_put bs id b bs.fresh 0 (omega arith) booked (λ c lt. let e = ap (times c) same in omega (arith, e)) in
      let room' : frames_used new ≤ s.frames = omega (arith, uses.0, uses.1, spares, colours, room) in
      record { orderly = orderly; seats = one_seats (IsSoundAt s) st new id y sound.seats turns (λ l. record { halves = h.halves; writes = writes; capped = h.capped; sized = h.sized }); room = room' }

  -- a line of a domain that goes on
  goes_sound : (told : Told) (spends : Spends) (out : Outcome) → AtLine x.book.stage → (c : Command) → c ≡ seat_command s x → Says (free s st) st.books x.own x.book c told spends → IsOrderly (after_line st id spends out) → Goes st.machine id out
      → Steps (half_of x) (half_at out.machine id) (leaf_of spends) (page_written x.own told c) → IsSound s (after_line st id spends out)
  goes_sound told spends out at c is says orderly g steps =
      let bs = st.books in
      let b0 = book_spent spends bs.fresh x.book in
      let b = book_after x.own out.reply b0 in
      let plain : b ≡ record b0 { stage = Ready } = plain_book x.own out.reply b0 g.on in
      let fresh = fresh_spent spends bs.fresh in
      let y : Seat = record x { own = g.after; guest = but_handles (guest_at id out.machine.shared.tables); exposed = outline (exposed_at id out.machine.shared.pages); book = b } in
      let new = after_line st id spends out in
      let p = sound.orderly.places in
      let turns = goes_turns st id p within out g b fresh in
      let h = sound.seats id live in
      let o = sound.orderly.seats id live in
      let own : own_at id out.machine.own ≡ g.after = ap (own_at id) g.own ∙ get_or-set_same st.machine.own id g.after no_own (omega (arith, p.own)) in
      let stepped : Steps (half_of x) (half_of y) (leaf_of spends) (page_written x.own told c) = subst (λ n. Steps (half_of x) (record (half_at out.machine id) { own = n }) (leaf_of spends) (page_written x.own told c)) own steps in
      let halves = steps_halves (half_of x) (half_of y) (leaf_of spends) (page_written x.own told c) stepped h.halves in
      let writes : WritesWhere b.stage (seat_command s y) = subst (λ (v : Book). WritesWhere v.stage (seat_command s y)) (sym plain) tt in
      let capped = steps_capped s x.life x.own g.after c x.book bs (free s st) told spends h.capped is says stepped.pages stepped.leaves g.later in
      let uses = one_uses st new id y within turns in
      let spares = spares_put bs id b fresh booked in
      let colours = colours_put bs id b fresh (copy_of spends) (fresh_is spends bs.fresh) booked
      (λ k lt. let e = ap (λ (v : Book). times k v.colours) plain in let less = spent_times spends bs.fresh x.book k lt in omega (arith, e, less)) in
      let spare = spent_spare spends bs.fresh x.book (says_spares (free s st) bs x.own x.book c told spends says) in
      let same_spare = ap (λ (v : Book). bit v.spare) plain in
      let none = none_begun id (next_id st) x.guest.begun x.book.stage at o.forks in
      let tables_old = ap (λ v. cond v (1 + length x.own.leaves) 0) live in
      let tables_new = ap (λ v. cond v (1 + length g.after.leaves) 0) live in
      let leaves = stepped.leaves in
      let aside_new : aside_at y ≡ 0 = ap (λ v. cond v (length y.guest.begun * need_with y.exposed (length g.after.leaves)) 0) live ∙ ap (λ (l : List ℕ). length l * need_with y.exposed (length g.after.leaves)) (ap (λ (v : Guest). v.begun) g.tables.here ∙ none) ∙ omega arith in
      let room = sound.room in
      let room' : frames_used new ≤ s.frames = omega (arith, uses.0, uses.1, spares, colours, room, spare, same_spare, tables_old, tables_new, leaves, aside_new) in
      record { orderly = orderly; seats = one_seats (IsSoundAt s) st new id y sound.seats turns (λ l. record { halves = halves; writes = writes; capped = capped; sized = stepped.pages ∙ h.sized }); room = room' }

  -- the end of a domain
  ends_sound : (spends : Spends) (out : Outcome) → IsOrderly (after_line st id spends out) → Ends st.machine id out → IsSound s (after_line st id spends out)
  ends_sound spends out orderly e = subst (IsSound s) (sym whole) ended where
    stopped : Outcome
    stopped = record { machine = record { own = set st.machine.own id no_own; shared = end_domain st.machine.shared id }; reply = reply.Ended }

    whole : after_line st id spends out ≡ after_line st id spends stopped
    whole = ap (after_line st id spends) (ap (λ m. record { machine = m; reply = out.reply }) e.machine ∙ ap (λ r. record { machine = stopped.machine; reply = r }) e.reply)

    ended : IsSound s (after_line st id spends stopped)
    ended =
        let bs = st.books in
        let fresh = fresh_spent spends bs.fresh in
        let y : Seat = record { own = no_own; life = None; guest = no_guest; exposed = outline fm.empty; book = no_book } in
        let new = after_line st id spends stopped in
        let turns = ends_turns st id sound.orderly.places within no_book fresh in
        let uses = one_uses st new id y within turns in
        let spares = spares_put bs id no_book fresh booked in
        let colours = colours_put bs id no_book fresh (copy_of spends) (fresh_is spends bs.fresh) booked (λ k lt. omega arith) in
        let tables_old = ap (λ v. cond v (1 + length x.own.leaves) 0) live in
        let few = copy_most spends in
        let room = sound.room in
        let room' : frames_used new ≤ s.frames = omega (arith, uses.0, uses.1, spares, colours, tables_old, few, room) in
        record { orderly = subst IsOrderly whole orderly; seats = one_seats (IsSoundAt s) st new id y sound.seats turns (λ l. absurd (false≢true l)); room = room' }

  -- what the begin of a clone comes to
  abbrev begun : Outcome
  begun = record { machine = record { own = set st.machine.own id (record x.own { refused = false }); shared = record st.machine.shared { tables = begin_clone st.machine.shared.tables id (guest_at id st.machine.shared.tables) } }; reply = reply.Begun (next_id st) }

  -- the begin of a clone, which puts aside what it needs
  begins_sound : (told : Told) (spends : Spends) (out : Outcome) → AtLine x.book.stage → Says (free s st) st.books x.own x.book command.Clone told spends → IsOrderly (after_line st id spends out) → Begins st.machine id told out → IsSound s (after_line st id spends out)
  begins_sound told spends out at says orderly e = subst (IsSound s) (sym whole) began where
    whole : after_line st id spends out ≡ after_line st id spends begun
    whole = ap (after_line st id spends) (ap (λ m. record { machine = m; reply = out.reply }) e.machine ∙ ap (λ r. record { machine = begun.machine; reply = r }) e.reply)

    began : IsSound s (after_line st id spends begun)
    began =
        let bs = st.books in
        let said = clone_says (free s st) bs x.own x.book told spends says in
        let b0 = book_spent spends bs.fresh x.book in
        let b : Book = record b0 { stage = Forking (shared_count x.own) } in
        let fresh = fresh_spent spends bs.fresh in
        let g : Guest = record (guest_at id st.machine.shared.tables) { accepted = x.guest.accepted + 1; begun = x.guest.begun ++ next_id st ∷ [] } in
        let o : Own = record x.own { refused = false } in
        let y : Seat = record x { own = o; guest = but_handles g; book = b } in
        let new = after_line st id spends begun in
        let turns = begins_turns st id sound.orderly.places within g o (next_id st + 1) b fresh in
        let h = sound.seats id live in
        let ord = sound.orderly.seats id live in
        let uses = one_uses st new id y within turns in
        let spares = spares_put bs id b fresh booked in
        let colours = colours_put bs id b fresh (copy_of spends) (fresh_is spends bs.fresh) booked (λ k lt. spent_times spends bs.fresh x.book k lt) in
        let spare = spent_spare spends bs.fresh x.book (says_spares (free s st) bs x.own x.book command.Clone told spends says) in
        let none = none_begun id (next_id st) x.guest.begun x.book.stage at ord.forks in
        let n = need_with x.exposed (length x.own.leaves) in
        let tables_old = ap (λ v. cond v (1 + length x.own.leaves) 0) live in
        let aside_new : aside_at y ≡ n = ap (λ v. cond v (length (x.guest.begun ++ next_id st ∷ []) * n) 0) live ∙ ap (λ (l : List ℕ). length (l ++ next_id st ∷ []) * n) none ∙ omega arith in
        let few = enough_free (free s st) n told said.1 e.frames in
        let frees = free_is s st in
        let room = sound.room in
        let room' : frames_used new ≤ s.frames = omega (arith, uses.0, uses.1, spares, colours, spare, tables_old, aside_new, few, frees, room) in
        record { orderly = subst IsOrderly whole orderly; seats = one_seats (IsSoundAt s) st new id y sound.seats turns (λ l. let k = h.halves in record { halves = record { hides = k.hides; apart = k.apart; maps = k.maps; marks = k.marks; devices = k.devices; identity = k.identity; named = k.named; inside = k.inside; low = k.low; high = k.high }; writes = tt; capped = h.capped; sized = h.sized }); room = room' }

  -- a line
  pub line_sound : (told : Told) (spends : Spends) → AtLine x.book.stage → Says (free s st) st.books x.own x.book (seat_command s x) told spends → IsSound s (line_turn s st id told spends).state
  line_sound told spends at says =
      let m = st.machine in
      let c = seat_command s x in
      let out = step s m (Line id x.own.line) told in
      let p = sound.orderly.places in
      let orderly = (line_falls s well st id sound.orderly live told spends at).orderly in
      let steps : c ≢ command.Exit → Steps (half_of x) (half_at out.machine id) (leaf_of spends) (page_written x.own told c) = λ far.
      command_steps m id told (omega (arith, within, p.own)) (omega (arith, within, p.exposed)) (omega (arith, within, p.guests)) (sound.seats id live).halves s c x.book st.books (free s st) spends far says in
      let goes : Goes m id out → IsSound s (after_line st id spends out) = λ g. goes_sound told spends out at c refl says orderly g (steps (goes_no_exit s m id told c g.on)) in
      let begins : Begins m id told out → IsSound s (after_line st id spends out) = λ e.
      let is = begins_clone s m id told c (next_id st) e.reply in
      begins_sound told spends out at (subst (λ v. Says (free s st) st.books x.own x.book v told spends) is says) orderly e in
      elim (line_kind s well m id told) as (λ k. IsSound s (after_line st id spends out)) [
        | inl e ↦ ends_sound spends out orderly e
        | inr k ↦ elim k.1 as (λ y. IsSound s (after_line st id spends out)) [ inl g ↦ goes g | inr e ↦ elim e as (λ y. IsSound s (after_line st id spends out)) [ inl e ↦ ends_sound spends out orderly e | inr e ↦ begins e ] ]
      ]
