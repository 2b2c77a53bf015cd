use Rattle.std.proofs.Common.{◌≡◌, Bool, true, false, ◌||◌, inl, inr, sym, ap, subst, ◌∙◌}
use Rattle.std.proofs.lemmas.Bool.{cases_Bool}
use Rattle.std.proofs.Math.Bool.{or-false}
use Rattle.model.specs.declared.layout.Layout.{Layout}
use Rattle.pmem.specs.Device.{moment}
use Rattle.pmem.specs.Crash.{image_of}
use Rattle.wbl_engine.specs.AtRest.{IsAtRest, at_rest_prop, synced_prop}
use Rattle.wbl_engine.specs.Copying.{IsHalf, half_prop}
use Rattle.wbl_engine.specs.Reopening.{RefusesReopening}
use Rattle.wbl_engine.proofs.Readable.{settled_stays}
use Rattle.wbl_engine.proofs.engine.WblEngineRestarting.restart.Goals as goal

pub returns-then-lines-lt-MIN_LINES-clause-moments : goal.returns-then-lines-lt-MIN_LINES-clause-moments
returns-then-lines-lt-MIN_LINES-clause-moments g c r whole = settled_stays r (g.P.Pmem.state c.args.self.now.device) c.requires.settled whole

pub returns-in-Err-clause-refused : goal.returns-in-Err-clause-refused
returns-in-Err-clause-refused g c =
    let self = c.args.self.now in
    let d = g.P.Pmem.state c.args.self.now.device in
    elim c.in-Err.ensures.refused [
      | inl fault ↦ inl fault
      | inr kept ↦
          elim (cases_Bool c.is_fault.result) [
            | inl is ↦ inl (c.is_fault.ensures.0 is)
            | inr other ↦
                inr (
                  subst (λ (layout : Layout). RefusesReopening layout d.lines (image_of d.words) c.args.role c.in-Err.refusal) c.layout_in-layout.ensures kept.0,
                  subst (λ (faulted : Bool). (at_rest : faulted ≡ false → self.copying ≡ false → IsAtRest self.current (g.P.Pmem.state c.reopen_device.new.device))
                      (half : faulted ≡ false → self.copying ≡ true → IsHalf self.current (g.P.Pmem.state c.reopen_device.new.device))
                      (synced : faulted ≡ false → g.P.Pmem.floor c.reopen_device.new.device ≡ moment (g.P.Pmem.state c.reopen_device.new.device))
                      → record self { device = c.reopen_device.new.device; faulted = faulted; at_rest = at_rest; half = half; synced = synced } ≡ self)
                      (sym (ap (λ (b : Bool). self.faulted || b) other ∙ or-false self.faulted))
                      (subst (λ (device : _). (at_rest : self.faulted ≡ false → self.copying ≡ false → IsAtRest self.current (g.P.Pmem.state device))
                      (half : self.faulted ≡ false → self.copying ≡ true → IsHalf self.current (g.P.Pmem.state device))
                      (synced : self.faulted ≡ false → g.P.Pmem.floor device ≡ moment (g.P.Pmem.state device))
                      → record self { device = device; at_rest = at_rest; half = half; synced = synced } ≡ self)
                      (sym kept.1)
                      (λ at_rest half synced. λ i.
                      record self {
                        at_rest = at_rest_prop self.faulted self.copying self.current d at_rest self.at_rest i;
                        half = half_prop self.faulted self.copying self.current d half self.half i;
                        synced = synced_prop self.faulted (g.P.Pmem.floor self.device) (moment d) synced self.synced i;
                      }))
                      _ _ _,
                )
          ]
    ]
