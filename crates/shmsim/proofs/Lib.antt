mod Reading
mod Refusing
mod Sizes
