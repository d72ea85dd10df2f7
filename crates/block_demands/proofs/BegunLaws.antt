-- The data command that the block service issues (02 2026-01): its nine bytes, and the record before its first tick.
-- Assumes nothing.
use Prim.Native.Nat.{ℕ, ◌+◌, ◌*◌, ◌/◌, ◌%◌, ◌<◌}
use native.Mathlib.Omega.{arith}
use mathlib.Core.Bool.{true, false}
use mathlib.Core.List.{List, [], ◌∷◌}
use mathlib.Core.Path.{◌≡◌, refl, sym, ap, subst}
use Rattle.drive.specs.declared.Drive.{Drive}
use Rattle.chip.specs.Commands.{kind_of}
use Rattle.image.specs.declared.layout.Geometry.{Geometry}
use Rattle.sectors.specs.declared.order.Job.TheVariants.{Move}
use Rattle.sectors.specs.declared.order.Order.{Order}
use Rattle.sectors.specs.declared.order.Pass.{Pass}
use Rattle.sectors.specs.declared.order.Pass.TheVariants.{Read, Write}
use Rattle.fdc.specs.declared.record.Controller.{Controller}
use Rattle.fdc.specs.declared.record.Phase.TheVariants.{Starting}
use Rattle.fdc.specs.Record.{drive_at}
use Rattle.fdc.specs.Registers.{gate_in, dma_in, motor_in, pending_in}
use Rattle.reached.specs.Runs.{Call, writes, run_calls}
use Rattle.demands.specs.Quiet.{Quiet}
use Rattle.demands.specs.Work.{AllOfBytes, at_work}
use Rattle.demands.proofs.QuietLaws.{quiet_run}
use Rattle.answers.specs.Accepts.{Ready, after_bytes, sends, BegunOrder}
use Rattle.answers.specs.CommandResults.{NoneBusy}
use Rattle.answers.proofs.AcceptLaws.{accepts, gathering}
use Rattle.block.specs.declared.place.Place.{Place}
use Rattle.block.specs.Ready.{command_of}
use Rattle.block.specs.Request.{order_bytes}
use Rattle.block_demands.specs.Asked.{transfer_of, id_of, order_of}
use Rattle.block_demands.specs.Made.{Rests}
use Rattle.block_demands.proofs.CourseLaws.{Lit}
use Rattle.block_demands.proofs.LedLaws.{Tickless, fifo_rests}
use Rattle.block_demands.proofs.MadeLaws.{rests_join}
use Rattle.block_demands.proofs.ReadyLaws.{command_runs}

-- the head stands on the cylinder, and the controller waits for a command
pub record Here (drive cylinder : ℕ) (c : Controller) : Type 0 where
  pub quiet : Quiet c
  pub ready : Ready c
  pub none_busy : NoneBusy c
  pub no_report : (k : ℕ) → k < 4 → (drive_at k c.drives).report ≡ 0
  pub gate : gate_in c.registers.dor ≡ true
  pub dma : dma_in c.registers.spec2 ≡ true
  pub motor : motor_in c.registers.dor drive ≡ true
  pub head : (drive_at drive c.drives).head ≡ cylinder

-- the numbers are bytes, the drive one of two
pub record Small (drive : ℕ) (g : Geometry) (place : Place) : Type 0 where
  pub drive_is : drive < 2
  pub cylinder : place.cylinder < 256
  pub side : place.side < 2
  pub sector : place.sector < 256
  pub n : g.n < 256
  pub slots : g.slots < 256

-- before the command's first tick, by calls that are handed no record at work
pub record Begun (pass : Pass) (drive : ℕ) (g : Geometry) (place : Place) (c e : Controller) : Type 0 where
  pub calls : List Call
  pub bytes : AllOfBytes calls
  pub tickless : Tickless calls
  pub rests : Rests calls c
  pub leads : run_calls calls c ≡ e
  pub starts : e.phase ≡ Starting (order_of pass drive g place)
  pub lit : Lit drive e
  pub head : (drive_at drive e.drives).head ≡ place.cylinder

none_pending : (drives : List Drive) → ((k : ℕ) → k < 4 → (drive_at k drives).report ≡ 0) → pending_in drives ≡ false
unfolding pending_in
none_pending drives n = simp (n 0 (omega arith), n 1 (omega arith), n 2 (omega arith), n 3 (omega arith))

module _ (drive : ℕ) (g : Geometry) (place : Place) (small : Small drive g place) (c : Controller)
    (here : Here drive place.cylinder c) where
  abbrev unit : ℕ
  unit = place.side % 2 * 4 + drive % 4

  unit_drive : unit % 4 ≡ drive
  unit_drive = omega (arith, small.drive_is)

  unit_side : unit / 4 % 2 ≡ place.side
  unit_side = omega (arith, small.drive_is, small.side)

  abbrev order_as : Pass → ℕ → ℕ → Order
  order_as pass d s = record { drive = d; side = s; job = Move (transfer_of pass g) (id_of g place) }

  abbrev nine : ℕ → List Call
  nine code = sends (order_bytes code drive g place)

  abbrev eight : ℕ → List Call
  eight code =
      sends (code ∷ unit ∷ place.cylinder ∷ place.side ∷ place.sector ∷ g.n ∷ g.slots ∷ 0x1B ∷ [])

  of_bytes : (code : ℕ) → code < 256 → AllOfBytes (nine code)
  of_bytes code h = (
    (omega arith, h),
    (
      (omega arith, omega (arith, small.drive_is)),
      (
        (omega arith, small.cylinder),
        (
          (omega arith, omega (arith, small.side)),
          (
            (omega arith, small.sector),
            (
              (omega arith, small.n),
              (
                (omega arith, small.slots),
                (
                  (omega arith, omega arith),
                  ((omega arith, omega arith), tt),
                ),
              ),
            ),
          ),
        ),
      ),
    ),
  )

  begun : (pass : Pass) (code : ℕ) → code < 256 → Rests (nine code) c
      → BegunOrder c (after_bytes (order_bytes code drive g place) c) (order_as pass (unit % 4) (unit / 4 % 2))
      → Begun pass drive g place c (command_of (order_bytes code drive g place) c)
  begun pass code h rests b =
      let e = command_of (order_bytes code drive g place) c in
      let b' : BegunOrder c e (order_as pass drive place.side) =
      subst (λ (d : ℕ). BegunOrder c e (order_as pass d place.side)) unit_drive
      (subst (λ (x : ℕ). BegunOrder c e (order_as pass (unit % 4) x)) unit_side
      (subst (λ (x : Controller). BegunOrder c x (order_as pass (unit % 4) (unit / 4 % 2)))
      (sym (command_runs (order_bytes code drive g place) c)) b)) in
      let quiet : Quiet e =
      rw (command_runs (order_bytes code drive g place) c) (quiet_run (nine code) c (of_bytes code h) here.quiet) in
      record {
        calls = nine code;
        bytes = of_bytes code h;
        tickless = (refl, (refl, (refl, (refl, (refl, (refl, (refl, (refl, (refl, tt)))))))));
        rests = rests;
        leads = sym (command_runs (order_bytes code drive g place) c);
        starts = b'.starts;
        lit = record {
          quiet = quiet;
          motor = rw b'.else.registers here.motor;
          gate = rw b'.else.registers here.gate;
          dma = rw b'.else.registers here.dma;
          silent = rw b'.else.drives (none_pending c.drives here.no_report);
        };
        head = rw b'.else.drives here.head;
      }

  -- the first eight bytes are gathered
  nine_rests : (code : ℕ) → at_work (run_calls (eight code) c).phase ≡ false → Rests (nine code) c
  unfolding Rests
  nine_rests code off =
      rests_join (eight code) (writes 5 0xFF ∷ []) c
      (fifo_rests (eight code) c (refl, (refl, (refl, (refl, (refl, (refl, (refl, (refl, tt)))))))) off).0 (off, tt)

  abbrev six : List ℕ
  six = place.cylinder ∷ place.side ∷ place.sector ∷ g.n ∷ g.slots ∷ 0x1B ∷ []

  read_rests_lem : Rests (nine 0x46) c
  unfolding kind_of
  read_rests_lem = nine_rests 0x46 (ap at_work (gathering c here.ready 0x46 unit six (omega arith)))

  write_rests : Rests (nine 0x45) c
  unfolding kind_of
  write_rests = nine_rests 0x45 (ap at_work (gathering c here.ready 0x45 unit six (omega arith)))

  pub read_begun : Begun Read drive g place c (command_of (order_bytes 0x46 drive g place) c)
  read_begun =
      begun Read 0x46 (omega arith) read_rests_lem
      ((accepts c).read false false false unit place.cylinder place.side place.sector g.n g.slots
      0x1B 0xFF here.ready here.none_busy)

  pub write_begun : Begun Write drive g place c (command_of (order_bytes 0x45 drive g place) c)
  write_begun =
      begun Write 0x45 (omega arith) write_rests
      ((accepts c).write false false unit place.cylinder place.side place.sector g.n g.slots
      0x1B 0xFF here.ready here.none_busy)
