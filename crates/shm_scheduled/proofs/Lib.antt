mod Asking
mod Reordering
mod Scheduling
