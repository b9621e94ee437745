-- Stated: what a step of a fetch asks for next, by its kind.
use Rattle.node_model.specs.Step.{Step}
use Rattle.coherent_pool.specs.declared.wanting.Wants.{Wants}
use Rattle.coherent_pool.specs.declared.wanting.Wants.TheVariants.{Register, Share, Exclude, Release, Look, Read, Get, Write, Clean, Invalidate, Install, WriteCopy, CleanCopy, RegisterAgain, Nothing}

abbrev pub wants_of : Step → Wants
wants_of Step.Register = Register
wants_of Step.LatchS = Share
wants_of Step.BackToS = Share
wants_of (Step.LastS v) = Share
wants_of Step.LatchX = Exclude
wants_of Step.ReleaseS = Release
wants_of Step.ReleaseDown = Release
wants_of Step.ReleaseEnd = Release
wants_of Step.RwBack = Release
wants_of (Step.RwEnd v) = Release
wants_of Step.Look = Look
wants_of Step.LookAgain = Look
wants_of Step.RwLook = Look
wants_of Step.Read = Read
wants_of Step.RwRead = Read
wants_of (Step.Get floor) = Get
wants_of (Step.Write v) = Write
wants_of (Step.Clean v) = Clean
wants_of Step.PlanLatch = Exclude
wants_of Step.PlanInvalidate = Invalidate
wants_of Step.PlanInstall = Install
wants_of Step.PlanWrite = WriteCopy
wants_of Step.PlanClean = CleanCopy
wants_of Step.PlanRegister = RegisterAgain
wants_of Step.PlanRelease = Release
wants_of step = Nothing
